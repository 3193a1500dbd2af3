-- How many numbers prefixes hold, once those of a policy are held.
use Rattle.std.proofs.Common.{zero, suc, ◌≡◌, ℕ, ◌+◌, ◌≤◌, ◌||◌, Bool, false, not, cond, List, [], ◌∷◌, map, count_by, nat_lt, Option, None, Some, is_none, refl, sym, ap, ◌∙◌, arith}
use Rattle.std.specs.List.{AllByRecursion, IsDistinct, insert, list_any}
use Rattle.std.specs.Prelude.{◌↔◌}
use Rattle.std.proofs.lemmas.Bool.{le-leb, le-ltb}
use Rattle.std.proofs.lemmas.List.Sums.{sum_by-cons, sum_by-insert}
use Rattle.pol_addr.specs.declared.network.Prefix.{Prefix}
use Rattle.pol_addr.specs.Prefix.{same_prefix}
use Rattle.pol_rule.specs.declared.policy.Policy.{Policy}
use Rattle.pol_rule.specs.Prefixes.{policy_prefixes}
use Rattle.pol_model.specs.declared.answer.Fault.TheVariants.{LocalExhausted}
use Rattle.pol_model.specs.declared.limits.TheConstants.{LOCAL_FIRST, LOCAL_IDENTITIES}
use Rattle.pol_model.specs.declared.request.Request.TheVariants.{Apply}
use Rattle.pol_model.specs.declared.row.IdentityRow.{IdentityRow}
use Rattle.pol_model.specs.Fault.{fault_if, fault_of, locals_held, locals_wanted}
use Rattle.pol_model_laws.specs.Holding.{is_held}
use Rattle.pol_model.specs.Identities.{free_number, held_or_new, is_local}
use Rattle.pol_model.specs.Prefixes.{has_prefix, number_of_prefix, prefix_held, prefix_row, prefixes_held}
use Rattle.pol_model.specs.State.{State}
use Rattle.pol_model.proofs.LeastFree.{first-le}
use Rattle.pol_model_laws.proofs.NoFault.{apply}
use Rattle.pol_model_laws.proofs.PolicyHolders.{policy_differ}
use Rattle.pol_model_laws.proofs.PrefixHolders.{is_held-number, same_prefix-turned}
use Rattle.pol_model_laws.proofs.Rows.{recounted-any, recounted-count}

any_insert : {X : Type 0} (p : X → Bool) (x : X) (i : ℕ) (xs : List X) → p x ≡ false → list_any p (insert xs i x) ≡ list_any p xs
any_insert p x zero xs fails = ap (λ b. b || list_any p xs) fails
any_insert p x (suc i) [] fails = ap (λ b. b || false) fails
any_insert p x (suc i) (y ∷ ys) fails = ap (λ b. p y || b) (any_insert p x i ys fails)

-- another prefix is held as before
held_other : (prefix own : Prefix) (rows : List IdentityRow) → same_prefix own prefix ≡ false → is_held own (prefix_held prefix rows) ≡ is_held own rows
held_other prefix own rows other = held (number_of_prefix prefix rows)
  where
    held : (o : Option ℕ) → is_held own (held_or_new o (prefix_row prefix (free_number LOCAL_FIRST rows)) rows) ≡ is_held own rows
    held (Some number) = recounted-any (λ row. has_prefix own row.prefix) (λ row c. refl) number (λ count. count + 1) rows
    held None = let new = prefix_row prefix (free_number LOCAL_FIRST rows) in any_insert (λ row. has_prefix own row.prefix) new (count_by (λ row. nat_lt row.number new.number) rows) rows other

-- so the others want as many numbers as before
wanted_same : (prefix : Prefix) (rows : List IdentityRow) (others : List Prefix) → AllByRecursion (λ other. same_prefix prefix other ≡ false) others → locals_wanted (prefix_held prefix rows) others ≡ locals_wanted rows others
wanted_same prefix rows [] differ = refl
wanted_same prefix rows (own ∷ others) differ =
    let here = is_held-number own (prefix_held prefix rows) ∙ ap not (held_other prefix own rows (same_prefix-turned own prefix ∙ differ.0)) ∙ sym (is_held-number own rows) in
    let rest = wanted_same prefix rows others differ.1 in
    sum_by-cons (λ p. cond (is_none (number_of_prefix p (prefix_held prefix rows))) 1 0) own others
    ∙ rw (here, rest) (sym (sum_by-cons (λ p. cond (is_none (number_of_prefix p rows)) 1 0) own others))

locals_now : (prefix : Prefix) (rows : List IdentityRow) → locals_held (prefix_held prefix rows) ≡ locals_held rows + cond (is_none (number_of_prefix prefix rows)) 1 0
locals_now prefix rows = now (number_of_prefix prefix rows)
  where
    now : (o : Option ℕ) → locals_held (held_or_new o (prefix_row prefix (free_number LOCAL_FIRST rows)) rows) ≡ locals_held rows + cond (is_none o) 1 0
    now (Some number) = recounted-count (λ row. is_local row.number) (λ row c. refl) number (λ count. count + 1) rows ∙ omega arith
    now None =
        let new = prefix_row prefix (free_number LOCAL_FIRST rows) in
        let local = le-leb LOCAL_FIRST new.number (first-le LOCAL_FIRST (map (λ row. row.number) rows)) in
        sum_by-insert (λ row. cond (is_local row.number) 1 0) rows (count_by (λ row. nat_lt row.number new.number) rows) new
        ∙ ap (λ b. locals_held rows + cond b 1 0) local

locals_all : (prefixes : List Prefix) (rows : List IdentityRow) → IsDistinct same_prefix prefixes → locals_held (prefixes_held prefixes rows) ≡ locals_held rows + locals_wanted rows prefixes
unfolding IsDistinct
locals_all [] rows differ = omega arith
locals_all (prefix ∷ others) rows differ =
    let rest = locals_all others (prefix_held prefix rows) differ.1 in
    let wanted = sum_by-cons (λ p. cond (is_none (number_of_prefix p rows)) 1 0) prefix others in
    omega (arith, rest, wanted, wanted_same prefix rows others differ.0, locals_now prefix rows)

-- A policy is refused for its prefixes exactly where they would hold more numbers than there are.
pub policies_fit : (s : State) (policy : Policy) → (fault_of s (Apply policy) ≡ None) ↔ (locals_held (prefixes_held (policy_prefixes policy) s.identities) ≤ LOCAL_IDENTITIES)
policies_fit s policy =
    let all = locals_all (policy_prefixes policy) s.identities (policy_differ policy) in (
      λ none. let room = apply s policy none in omega (arith, all, room),
      λ fits. ap (λ b. fault_if b LocalExhausted None) (le-ltb LOCAL_IDENTITIES (locals_held s.identities + locals_wanted s.identities (policy_prefixes policy)) (omega (arith, all, fits))),
    )
