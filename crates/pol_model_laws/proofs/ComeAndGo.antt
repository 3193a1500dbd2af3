-- What comes and what goes in one request: no number that comes goes, and what stays keeps its number.
use Rattle.std.proofs.Common.{◌≡◌, ℕ, ◌+◌, ◌==◌, Bool, true, false, cond, List, [], ◌∷◌, map, Some, ◌⊎◌, inl, inr, refl, sym, ap, ◌∙◌, subst}
use Rattle.std.proofs.lemmas.Bool.{eqb-true, eq-eqb}
use Rattle.pol_addr.specs.declared.network.Prefix.{Prefix}
use Rattle.pol_data.proofs.Members.{In}
use Rattle.pol_rule.specs.declared.policy.Policy.{Policy}
use Rattle.pol_rule.specs.Prefixes.{policy_prefixes}
use Rattle.pol_model.specs.declared.request.Request.{Request}
use Rattle.pol_model.specs.declared.request.Request.TheVariants.{AddEndpoint, RemoveEndpoint, AddIdentity, RemoveIdentity, Apply, Remove, SetMode}
use Rattle.pol_model.specs.declared.row.IdentityRow.{IdentityRow}
use Rattle.pol_model.specs.declared.row.Stamped.{Stamped}
use Rattle.pol_model.specs.After.{after}
use Rattle.pol_model_laws.specs.Holding.{has_row, uncounted, IsPartOf, rows_taken}
use Rattle.pol_model_laws.specs.Keeps.{KeepsRows}
use Rattle.pol_model.specs.Policies.{applied, is_of_key}
use Rattle.pol_model.specs.Prefixes.{has_prefix, prefixes_held}
use Rattle.pol_model.specs.State.{State}
use Rattle.pol_model_laws.specs.WithoutFaults.{MayCommit}
use Rattle.pol_model_laws.proofs.HoldingLaws.{new_prefix_row}
use Rattle.pol_model_laws.proofs.KeepsAll.{prefix_held_by}
use Rattle.pol_model_laws.proofs.KeptRows.{kept_rows}
use Rattle.pol_model_laws.proofs.KeptStates.{Kept, kept_after}
use Rattle.pol_model_laws.proofs.Ledger.{AreApart, SameLabels, SamePrefix, has_prefix-is}
use Rattle.pol_model_laws.proofs.Membership.{In-filter, In-list_any, In-map, list_any-In, map-In}
use Rattle.pol_model_laws.proofs.NoFault.{apply}
use Rattle.pol_model_laws.proofs.PartStates.{part_after, part_before}
use Rattle.pol_model_laws.proofs.Releases.{prefixes_held-held}
use Rattle.pol_model_laws.proofs.RowLedger.{labels_apart, prefixes_apart, rows_from}
use Rattle.pol_model_laws.proofs.PrefixHolders.{hold_prefixes}

-- the rows in between fit together too
pub taken_keeps : (s : State) (request : Request) → MayCommit s request → Kept s → KeepsRows (rows_taken s request)
taken_keeps s (AddEndpoint name labels address) may kept = let now = kept_rows s (AddEndpoint name labels address) may kept.rows kept.differ in rows_from now.ledger now.held
taken_keeps s (RemoveEndpoint name) may kept = rows_from kept.rows.ledger kept.rows.held
taken_keeps s (AddIdentity name labels) may kept = let now = kept_rows s (AddIdentity name labels) may kept.rows kept.differ in rows_from now.ledger now.held
taken_keeps s (RemoveIdentity name) may kept = rows_from kept.rows.ledger kept.rows.held
taken_keeps s (Apply policy) may kept =
    rows_from (hold_prefixes (policy_prefixes policy) s.identities _ _ kept.rows.ledger may.valid (apply s policy may.no_fault))
    (prefixes_held-held (policy_prefixes policy) s.identities kept.rows.held)
taken_keeps s (Remove key) may kept = rows_from kept.rows.ledger kept.rows.held
taken_keeps s (SetMode mode) may kept = rows_from kept.rows.ledger kept.rows.held

taken_labels : (s : State) (request : Request) → MayCommit s request → Kept s → AreApart SameLabels (rows_taken s request)
taken_labels s request may kept = labels_apart (taken_keeps s request may kept)

taken_prefixes : (s : State) (request : Request) → MayCommit s request → Kept s → AreApart SamePrefix (rows_taken s request)
taken_prefixes s request may kept = prefixes_apart (taken_keeps s request may kept)

-- a row of the part is one of the whole, its count aside
pub in_whole : (rows others : List IdentityRow) → IsPartOf rows others → (row : IdentityRow) → In row rows → (own : IdentityRow) × In own others × (uncounted own ≡ uncounted row)
in_whole rows others part row there =
    let kept = subst (λ list. In (uncounted row) list) (sym part) (map-In uncounted row rows there) in
    In-map uncounted (uncounted row) others (In-filter (λ r. has_row r.number rows) (uncounted row) (map uncounted others) kept).0

-- two rows of parts that share a prefix, or labels, share a number
same_in_parts : (Same : IdentityRow → IdentityRow → Type 0) → ((one other : IdentityRow) → Same (uncounted one) (uncounted other) → Same one other) → ((one other : IdentityRow) → Same one other → Same (uncounted one) (uncounted other))
    → (one_rows other_rows whole : List IdentityRow) → IsPartOf one_rows whole → IsPartOf other_rows whole → AreApart Same whole
    → (one other : IdentityRow) → In one one_rows → In other other_rows → Same one other → one.number ≡ other.number
same_in_parts Same back to one_rows other_rows whole part part_too apart one other there here same =
    let first = in_whole one_rows whole part one there in
    let second = in_whole other_rows whole part_too other here in
    let uncounted_same = subst (λ r. Same r (uncounted second.0)) (sym first.2) (subst (λ r. Same (uncounted one) r) (sym second.2) (to one other same)) in
    sym (ap (λ r. r.number) first.2) ∙ apart first.0 second.0 first.1 second.1 (back first.0 second.0 uncounted_same) ∙ ap (λ r. r.number) second.2

pub applied-here : (new : Stamped) (policies : List Stamped) → In new (applied new policies)
applied-here new [] = inl refl
applied-here new (old ∷ others) = placed (is_of_key new.policy.key old) (applied-here new others)
  where
    placed : (b : Bool) → In new (applied new others) → In new (cond b (new ∷ others) (old ∷ applied new others))
    placed true rest = inl refl
    placed false rest = inr rest

-- a number that an applied policy's prefixes took stays
applied_stays : (s : State) (policy : Policy) → MayCommit s (Apply policy) → Kept s → (number : ℕ) → has_row number (prefixes_held (policy_prefixes policy) s.identities) ≡ true
    → (has_row number s.identities ≡ true) ⊎ (has_row number (after s (Apply policy)).identities ≡ true)
applied_stays s policy may kept number has =
    let now = after s (Apply policy) in
    let new : Stamped = record { policy = policy; stamp = s.revision + 1 } in
    let mid = prefixes_held (policy_prefixes policy) s.identities in
    let one = In-list_any (λ r. r.number == number) mid has in
    let its = eqb-true one.0.number number one.2 in
    elim (new_prefix_row (policy_prefixes policy) s.identities kept.rows.ledger.ascend one.0 one.1) [
      | inl old ↦ inl (subst (λ n. has_row n s.identities ≡ true) its old)
      | inr taken ↦
          let held = prefix_held_by now (kept_after s (Apply policy) may kept) new (applied-here new s.policies) taken.0 taken.1 in
          let row = In-list_any (λ r. has_prefix taken.0 r.prefix) now.identities held in
          let own = in_whole now.identities mid (part_after s (Apply policy) kept.rows.ledger.ascend) row.0 row.1 in
          let own_prefix = ap (λ r. r.prefix) own.2 ∙ has_prefix-is taken.0 row.0.prefix row.2 in
          let number_is = sym (ap (λ r. r.number) own.2) ∙ taken_prefixes s (Apply policy) may kept own.0 one.0 own.1 one.1 (taken.0, own_prefix, taken.2) ∙ its in
          inr (list_any-In (λ r. r.number == number) row.0 now.identities row.1 (eq-eqb row.0.number number number_is))
    ]

-- no number that comes goes
pub come_stays : (s : State) (request : Request) → MayCommit s request → Kept s → (number : ℕ) → has_row number (rows_taken s request) ≡ true
    → (has_row number s.identities ≡ true) ⊎ (has_row number (after s request).identities ≡ true)
come_stays s (AddEndpoint name labels address) may kept number has = inr has
come_stays s (RemoveEndpoint name) may kept number has = inl has
come_stays s (AddIdentity name labels) may kept number has = inr has
come_stays s (RemoveIdentity name) may kept number has = inl has
come_stays s (Apply policy) may kept number has = applied_stays s policy may kept number has
come_stays s (Remove key) may kept number has = inl has
come_stays s (SetMode mode) may kept number has = inl has

-- a prefix that is held before and after keeps its number
pub prefix_stays : (s : State) (request : Request) → MayCommit s request → Kept s → (prefix : Prefix) (old new : IdentityRow) → In old s.identities → In new (after s request).identities
    → old.prefix ≡ Some prefix → new.prefix ≡ Some prefix → old.number ≡ new.number
prefix_stays s request may kept prefix old new there here has has_too =
    same_in_parts SamePrefix (λ one other same. same) (λ one other same. same) s.identities (after s request).identities (rows_taken s request)
    (part_before s request kept.rows.ledger.ascend) (part_after s request kept.rows.ledger.ascend) (taken_prefixes s request may kept) old new there here (prefix, has, has_too)

pub labels_stay : (s : State) (request : Request) → MayCommit s request → Kept s → (old new : IdentityRow) → In old s.identities → In new (after s request).identities
    → SameLabels old new → old.number ≡ new.number
labels_stay s request may kept old new there here same =
    same_in_parts SameLabels (λ one other same. same) (λ one other same. same) s.identities (after s request).identities (rows_taken s request)
    (part_before s request kept.rows.ledger.ascend) (part_after s request kept.rows.ledger.ascend) (taken_labels s request may kept) old new there here same
