-- What a state keeps is what the induction needs.
use Rattle.std.proofs.Common.{◌≡◌, ℕ, ◌==◌, Bool, true, false, cond, List, [], ◌∷◌, count_by, drop, Some, inl, inr, refl, sym, ap, ◌∙◌, subst, arith}
use Rattle.std.proofs.lemmas.Bool.{both_ways, eqb-true, false_from_ne_true}
use Rattle.std.proofs.lemmas.List.Sums.{sum_by-cons}
use Rattle.pol_addr.specs.declared.network.Prefix.{Prefix}
use Rattle.pol_addr.specs.Prefix.{same_prefix}
use Rattle.pol_data.proofs.Members.{In, every-in}
use Rattle.pol_rule.specs.Prefixes.{policy_prefixes}
use Rattle.pol_model.specs.declared.limits.TheConstants.{RESERVED_LAST}
use Rattle.pol_model.specs.declared.row.Endpoint.{Endpoint}
use Rattle.pol_model.specs.declared.row.NamedIdentity.{NamedIdentity}
use Rattle.pol_model.specs.declared.row.Stamped.{Stamped}
use Rattle.pol_model_laws.specs.Holding.{has_row, is_held}
use Rattle.pol_model_laws.specs.Keeps.{IsClusterNumber, IsInForceIn, IsLiveIn, IsNamedIn, Keeps, holders_of, names_prefix}
use Rattle.pol_model.specs.State.{State}
use Rattle.pol_model_laws.proofs.Keyed.{one_of_number}
use Rattle.pol_model_laws.proofs.KeptRows.{KeptRows, number_holders, prefix_holders}
use Rattle.pol_model_laws.proofs.KeptStates.{Kept, KeptEndpoint, KeptPolicy}
use Rattle.pol_model_laws.proofs.Ledger.{same_prefix-is}
use Rattle.pol_model_laws.proofs.RowLedger.{held_from, ledger_from}
use Rattle.pol_model_laws.proofs.Membership.{In-list_any, find-In, list_any-In}

counted_none : {X : Type 0} (p : X → Bool) (xs : List X) → ((x : X) → In x xs → p x ≡ false) → count_by p xs ≡ 0
counted_none p [] none = refl
counted_none p (x ∷ xs) none =
    let here = ap {B = ℕ} (λ b. cond b 1 0) (none x (inl refl)) in
    omega (arith, sum_by-cons (λ z. cond (p z) 1 0) x xs, here, counted_none p xs (λ y there. none y (inr there)))

module _ (s : State) (keeps : Keeps s) where
  live : (endpoint : Endpoint) → In endpoint s.endpoints → IsLiveIn s endpoint
  live endpoint there = every-in (IsLiveIn s) s.endpoints keeps.endpoints endpoint there

  -- a number without a row has no holder
  no_endpoint : (number : ℕ) → has_row number s.identities ≡ false → (endpoint : Endpoint) → In endpoint s.endpoints → (endpoint.identity == number) ≡ false
  no_endpoint number none endpoint there =
      false_from_ne_true (endpoint.identity == number) (λ same.
      let it = live endpoint there in
      let row = find-In (λ row. row.number == endpoint.identity) it.row s.identities it.there in
      let has = list_any-In (λ row. row.number == endpoint.identity) it.row s.identities row.0 row.1 in
      both_ways (has_row number s.identities) none (subst (λ n. has_row n s.identities ≡ true) (eqb-true endpoint.identity number same) has))

  no_named : (number : ℕ) → has_row number s.identities ≡ false → (identity : NamedIdentity) → In identity s.named → (identity.number == number) ≡ false
  no_named number none identity there =
      false_from_ne_true (identity.number == number) (λ same.
      let it = every-in (IsNamedIn s) s.named keeps.named identity there in
      let row = find-In (λ row. row.number == identity.number) it.row s.identities it.there in
      let has = list_any-In (λ row. row.number == identity.number) it.row s.identities row.0 row.1 in
      both_ways (has_row number s.identities) none (subst (λ n. has_row n s.identities ≡ true) (eqb-true identity.number number same) has))

  no_policy : (prefix : Prefix) → is_held prefix s.identities ≡ false → (stamped : Stamped) → In stamped s.policies → names_prefix (Some prefix) stamped ≡ false
  no_policy prefix none stamped there =
      false_from_ne_true (names_prefix (Some prefix) stamped) (λ names.
      let it = every-in (IsInForceIn s) s.policies keeps.policies stamped there in
      let one = In-list_any (same_prefix prefix) (policy_prefixes stamped.policy) names in
      let held = every-in (λ prefix. is_held prefix s.identities ≡ true) (policy_prefixes stamped.policy) it.held one.0 one.1 in
      both_ways (is_held prefix s.identities) none (subst (λ p. is_held p s.identities ≡ true) (sym (same_prefix-is prefix one.0 one.2)) held))

  kept_endpoint : (endpoint : Endpoint) → In endpoint s.endpoints → KeptEndpoint s.revision s.identities endpoint
  kept_endpoint endpoint there =
      let it = live endpoint there in
      let at = find-In (λ row. row.number == endpoint.identity) it.row s.identities it.there in
      record {
        added = it.added;
        slot = it.slot;
        label_set = it.label_set;
        address = it.address;
        number = it.number;
        row = λ row here same.
            let one = one_of_number (λ r. r.number) row it.row s.identities keeps.identities.numbers here at.0 (same ∙ sym (eqb-true it.row.number endpoint.identity at.1)) in
            (ap (λ r. r.labels) one ∙ it.labels, ap (λ r. r.prefix) one ∙ it.no_prefix);
      }

  kept_named : (identity : NamedIdentity) → In identity s.named → IsClusterNumber identity.number
  kept_named identity there =
      let it = every-in (IsNamedIn s) s.named keeps.named identity there in
      let at = find-In (λ row. row.number == identity.number) it.row s.identities it.there in
      subst IsClusterNumber (eqb-true it.row.number identity.number at.1) it.cluster.number

  kept_policy : (stamped : Stamped) → In stamped s.policies → KeptPolicy s.revision stamped
  kept_policy stamped there =
      let it = every-in (IsInForceIn s) s.policies keeps.policies stamped there in
      record { stamp = it.stamp; within = it.within }

  kept_rows_from : KeptRows s
  kept_rows_from = record {
    ledger =
        ledger_from keeps.identities (number_holders s.endpoints s.named) (prefix_holders s.policies)
        (λ row there. every-in (λ row. row.holders ≡ holders_of s row) (drop RESERVED_LAST s.identities) keeps.holders row there)
        (λ number none.
        omega (arith, counted_none (λ e. e.identity == number) s.endpoints (no_endpoint number none), counted_none (λ i. i.number == number) s.named (no_named number none)))
        (λ prefix none. counted_none (names_prefix (Some prefix)) s.policies (no_policy prefix none));
    held = held_from keeps.identities;
  }

  pub kept_from : Kept s
  kept_from = record {
    rows = kept_rows_from;
    differ = record { endpoints = keeps.endpoint_names; named = keeps.identity_names; policies = keeps.keys };
    slots = keeps.slots;
    addresses = keeps.addresses;
    endpoints = kept_endpoint;
    named = kept_named;
    policies = kept_policy;
    commits = keeps.few;
  }
