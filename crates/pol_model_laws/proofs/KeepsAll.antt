-- What each state keeps, as it is handed out.
use Rattle.std.proofs.Common.{◌≡◌, ◌==◌, true, List, [], ◌∷◌, drop, Some, inl, inr, sym, subst, arith}
use Rattle.std.specs.List.{IsDistinct}
use Rattle.std.proofs.lemmas.Bool.{cases_Bool, eqb-true}
use Rattle.pol_addr.specs.declared.network.Prefix.{Prefix}
use Rattle.pol_addr.specs.Prefix.{same_prefix}
use Rattle.pol_data.proofs.Members.{In, every-from_in}
use Rattle.pol_rule.specs.Prefixes.{policy_prefixes}
use Rattle.pol_model.specs.declared.limits.TheConstants.{RESERVED_LAST}
use Rattle.pol_model.specs.declared.options.Options.{Options}
use Rattle.pol_model.specs.declared.request.Request.{Request}
use Rattle.pol_model.specs.declared.row.Endpoint.{Endpoint}
use Rattle.pol_model.specs.declared.row.NamedIdentity.{NamedIdentity}
use Rattle.pol_model.specs.declared.row.Stamped.{Stamped}
use Rattle.pol_model.specs.After.{after, after_all, start, state_of}
use Rattle.pol_model_laws.specs.Holding.{is_held}
use Rattle.pol_model_laws.specs.Keeps.{IsClusterNumber, IsInForceIn, IsLiveIn, IsNamedIn, Keeps, holders_of, names_prefix}
use Rattle.pol_model.specs.State.{State}
use Rattle.pol_model_laws.specs.WithoutFaults.{CommitFrom, WithoutFaults}
use Rattle.pol_model_laws.proofs.KeptStates.{Kept, counted_In, endpoint_row, kept_after, named_row}
use Rattle.pol_model_laws.proofs.Membership.{find-In, found-some, list_any-In}
use Rattle.pol_model_laws.proofs.PrefixHolders.{same_prefix-itself}
use Rattle.pol_model_laws.proofs.RowLedger.{behind_taken, cluster_row, rows_from}
use Rattle.pol_model_laws.proofs.StartRows.{start_held, start_ledger}

-- before the first request
pub kept_start : (options : Options) → Kept (start options)
unfolding IsDistinct
kept_start options = record {
  rows = record { ledger = start_ledger; held = start_held };
  differ = record { endpoints = tt; named = tt; policies = tt };
  slots = tt;
  addresses = tt;
  endpoints = λ endpoint there. elim there [ ];
  named = λ identity there. elim there [ ];
  policies = λ stamped there. elim there [ ];
  commits = omega arith;
}

kept_all : (s : State) (requests : List Request) → CommitFrom s requests → Kept s → Kept (after_all s requests)
kept_all s [] commit kept = kept
kept_all s (request ∷ others) commit kept = kept_all (after s request) others commit.1 (kept_after s request commit.0 kept)

pub state_kept : (options : Options) (requests : List Request) → WithoutFaults options requests → Kept (state_of options requests)
state_kept options requests commit = kept_all (start options) requests commit (kept_start options)

module _ (s : State) (kept : Kept s) where
  live : (endpoint : Endpoint) → In endpoint s.endpoints → IsLiveIn s endpoint
  live endpoint there =
      let it = kept.endpoints endpoint there in
      let one = found-some (λ row. row.number == endpoint.identity) s.identities (endpoint_row s kept.rows endpoint there) in
      let at = find-In (λ row. row.number == endpoint.identity) one.0 s.identities one.1 in
      let its = it.row one.0 at.0 (eqb-true one.0.number endpoint.identity at.1) in
      record { added = it.added; slot = it.slot; label_set = it.label_set; address = it.address; number = it.number; row = one.0; there = one.1; labels = its.0; no_prefix = its.1 }

  named : (identity : NamedIdentity) → In identity s.named → IsNamedIn s identity
  named identity there =
      let one = found-some (λ row. row.number == identity.number) s.identities (named_row s kept.rows identity there) in
      let at = find-In (λ row. row.number == identity.number) one.0 s.identities one.1 in
      record { row = one.0; there = one.1; cluster = cluster_row kept.rows.ledger one.0 at.0 (subst IsClusterNumber (sym (eqb-true one.0.number identity.number at.1)) (kept.named identity there)) }

  pub prefix_held_by : (stamped : Stamped) → In stamped s.policies → (prefix : Prefix) → In prefix (policy_prefixes stamped.policy) → is_held prefix s.identities ≡ true
  prefix_held_by stamped there prefix names =
      elim (cases_Bool (is_held prefix s.identities)) [
        | inl held ↦ held
        | inr none ↦
            let nobody = kept.rows.ledger.prefixes_there prefix none in
            let this = list_any-In (same_prefix prefix) prefix (policy_prefixes stamped.policy) names (same_prefix-itself prefix) in
            let one = counted_In (names_prefix (Some prefix)) stamped s.policies there this in
            absurd (omega (arith, nobody, one))
      ]

  in_force : (stamped : Stamped) → In stamped s.policies → IsInForceIn s stamped
  in_force stamped there =
      let it = kept.policies stamped there in
      record { stamp = it.stamp; within = it.within; held = every-from_in (λ prefix. is_held prefix s.identities ≡ true) (policy_prefixes stamped.policy) (prefix_held_by stamped there) }

  pub keeps : Keeps s
  keeps = record {
    identities = rows_from kept.rows.ledger kept.rows.held;
    holders = every-from_in (λ row. row.holders ≡ holders_of s row) (drop RESERVED_LAST s.identities) (λ row there. (behind_taken kept.rows.ledger row there).count);
    endpoints = every-from_in (IsLiveIn s) s.endpoints live;
    slots = kept.slots;
    endpoint_names = kept.differ.endpoints;
    addresses = kept.addresses;
    named = every-from_in (IsNamedIn s) s.named named;
    identity_names = kept.differ.named;
    policies = every-from_in (IsInForceIn s) s.policies in_force;
    keys = kept.differ.policies;
    few = kept.commits;
  }

pub state_keeps : (options : Options) (requests : List Request) → WithoutFaults options requests → Keeps (state_of options requests)
state_keeps options requests commit = keeps (state_of options requests) (state_kept options requests commit)
