-- Which entry a filter is of, and that its place and stamp tell it.
use Rattle.std.proofs.Common.{zero, suc, ◌≡◌, ℕ, ◌+◌, ◌-◌, Bool, true, false, cond, List, [], ◌∷◌, ◌++◌, take, Some, refl, sym, ◌∙◌, ap, subst, arith}
use Rattle.std.specs.List.{AllByRecursion, Contains, slice_get}
use Rattle.std.proofs.lemmas.Option.{same_Some}
use Rattle.pol_data.proofs.Every.{every-append, every-contained, every-flat_map, every-weaker}
use Rattle.pol_data.proofs.Members.{every-from_in, Contains-from_In}
use Rattle.pol_labels.specs.declared.label.Label.{Label}
use Rattle.pol_labels.specs.Match.{matches}
use Rattle.pol_ports.specs.declared.Direction.{Direction}
use Rattle.pol_rule.specs.Covers.{has_effect, section_of}
use Rattle.pol_rule.specs.declared.policy.Entry.{Entry}
use Rattle.pol_rule.specs.declared.policy.Place.{Place}
use Rattle.pol_rule.specs.declared.policy.Policy.{Policy}
use Rattle.pol_rule.specs.declared.policy.Rule.{Rule}
use Rattle.pol_rule.specs.declared.policy.Section.{Section}
use Rattle.pol_model.specs.declared.options.Options.{Options}
use Rattle.pol_model.specs.declared.request.Request.{Request}
use Rattle.pol_model.specs.declared.request.Request.TheVariants.{Apply}
use Rattle.pol_model.specs.declared.row.Stamped.{Stamped}
use Rattle.pol_model.specs.After.{state_of}
use Rattle.pol_model.specs.Enforced.{allow_section, deny_section}
use Rattle.pol_model_laws.proofs.Remembered.{applied-by}
use Rattle.pol_filters.specs.declared.filter.Filter.{Filter}
use Rattle.pol_filters.specs.Resolved.{filter_at, entry_filters, rule_filters, policy_filters, filters_in}

-- the entry that a filter is of
record IsOfEntry (stamped : Stamped) (one : Filter) : Type 0 where
  rule : Rule
  entry : Entry
  rule_there : slice_get stamped.policy.rules one.place.rule ≡ Some rule
  entry_there : slice_get (section_of one.place.section rule) one.place.entry ≡ Some entry
  is : one ≡ filter_at stamped one.place.rule one.place.section one.place.entry entry

-- what holds of each filter of a list of entries, where it holds of the filter of each entry
module _ (P : Filter → Type 0) (made : ℕ → Entry → Filter) where
  chosen : (b : Bool) (x : Filter) (xs : List Filter) → P x → AllByRecursion P xs → AllByRecursion P (cond b (x ∷ xs) xs)
  chosen true x xs here rest = (here, rest)
  chosen false x xs here rest = rest

  all_entries : (n : ℕ) (entries : List Entry) → ((k : ℕ) (entry : Entry) → slice_get entries k ≡ Some entry → P (made (n + k) entry))
      → AllByRecursion P (entry_filters made n entries)
  all_entries n [] each = tt
  all_entries n (entry ∷ others) each =
      let here : P (made n entry) = subst (λ m. P (made m entry)) (omega arith) (each 0 entry refl) in
      let later : (k : ℕ) (other : Entry) → slice_get others k ≡ Some other → P (made (n + 1 + k) other) =
      λ k other there. subst (λ m. P (made m other)) (omega arith) (each (suc k) other there) in
      chosen (has_effect entry) (made n entry) (entry_filters made (n + 1) others) here (all_entries (n + 1) others later)

-- and of each filter of a list of rules
module _ (P : Filter → Type 0) (stamped : Stamped) (labels : List Label) (dir : Direction) where
  either : (b : Bool) (xs ys : List Filter) → AllByRecursion P xs → AllByRecursion P ys → AllByRecursion P (cond b (xs ++ ys) ys)
  either true xs ys front back = every-append P xs ys front back
  either false xs ys front back = back

  all_rules : (n : ℕ) (rules : List Rule)
      → ((k : ℕ) (rule : Rule) → slice_get rules k ≡ Some rule → AllByRecursion P (rule_filters stamped dir (n + k) rule))
      → AllByRecursion P (policy_filters stamped labels dir n rules)
  all_rules n [] each = tt
  all_rules n (rule ∷ others) each =
      let here : AllByRecursion P (rule_filters stamped dir n rule) =
      subst (λ m. AllByRecursion P (rule_filters stamped dir m rule)) (omega arith) (each 0 rule refl) in
      let later : (k : ℕ) (other : Rule) → slice_get others k ≡ Some other → AllByRecursion P (rule_filters stamped dir (n + 1 + k) other) =
      λ k other there. subst (λ m. AllByRecursion P (rule_filters stamped dir m other)) (omega arith) (each (suc k) other there) in
      either (matches rule.subject labels) (rule_filters stamped dir n rule) (policy_filters stamped labels dir (n + 1) others) here
      (all_rules (n + 1) others later)

of_section : (stamped : Stamped) (n : ℕ) (rule : Rule) (part : Section) → slice_get stamped.policy.rules n ≡ Some rule
    → AllByRecursion (IsOfEntry stamped) (entry_filters (filter_at stamped n part) 0 (section_of part rule))
of_section stamped n rule part there =
    all_entries (IsOfEntry stamped) (filter_at stamped n part) 0 (section_of part rule) (λ k entry at. record {
      rule = rule;
      entry = entry;
      rule_there = there;
      entry_there = subst (λ m. slice_get (section_of part rule) m ≡ Some entry) (omega arith) at;
      is = refl;
    })

of_policy : (stamped : Stamped) (labels : List Label) (dir : Direction)
    → AllByRecursion (IsOfEntry stamped) (policy_filters stamped labels dir 0 stamped.policy.rules)
of_policy stamped labels dir =
    all_rules (IsOfEntry stamped) stamped labels dir 0 stamped.policy.rules (λ k rule there.
    let at : slice_get stamped.policy.rules (0 + k) ≡ Some rule = subst (λ m. slice_get stamped.policy.rules m ≡ Some rule) (omega arith) there in
    every-append (IsOfEntry stamped) _ _ (of_section stamped (0 + k) rule (allow_section dir) at) (of_section stamped (0 + k) rule (deny_section dir) at))

-- a filter is of an entry of one of the policies
IsOfSome : List Stamped → Filter → Type 0
IsOfSome policies one = (stamped : Stamped) × Contains policies stamped × IsOfEntry stamped one

of_some : (policies : List Stamped) (labels : List Label) (dir : Direction) (one : Filter) → Contains (filters_in policies labels dir) one
    → IsOfSome policies one
unfolding IsOfSome
of_some policies labels dir one there =
    every-contained (IsOfSome policies) (filters_in policies labels dir) one
    (every-flat_map (IsOfSome policies) (λ stamped. policy_filters stamped labels dir 0 stamped.policy.rules) policies
    (every-from_in _ policies (λ stamped in'.
    every-weaker (IsOfEntry stamped) (IsOfSome policies) (λ f of. (stamped, Contains-from_In policies stamped in', of))
    (policy_filters stamped labels dir 0 stamped.policy.rules) (of_policy stamped labels dir)))) there

from_take : {X : Type 0} (n : ℕ) (xs : List X) (k : ℕ) (x : X) → slice_get (take n xs) k ≡ Some x → slice_get xs k ≡ Some x
from_take zero xs k x there = absurd cc
from_take (suc n) [] k x there = absurd cc
from_take (suc n) (y ∷ xs) zero x there = there
from_take (suc n) (y ∷ xs) (suc k) x there = from_take n xs k x there

same_apply : (p q : Policy) → Some (Apply p) ≡ Some (Apply q) → p ≡ q
same_apply p q e = cc

module _ (options : Options) (requests : List Request) (n m : ℕ) (labels others : List Label) (dir side : Direction) (f g : Filter) where
  -- a stamp and a policy make a filter's place an entry
  pub named : Contains (filters_in (state_of options (take n requests)).policies labels dir) f
      → Contains (filters_in (state_of options (take m requests)).policies others side) g → f.place ≡ g.place → f.stamp ≡ g.stamp → f ≡ g
  unfolding IsOfSome
  named f_there g_there place stamp =
      let a = of_some (state_of options (take n requests)).policies labels dir f f_there in
      let b = of_some (state_of options (take m requests)).policies others side g g_there in
      let first = (applied-by options (take n requests) a.0 a.1).1 in
      let second = (applied-by options (take m requests) b.0 b.1).1 in
      let stamps : a.0.stamp ≡ b.0.stamp = sym (ap (λ x. x.stamp) a.2.is) ∙ stamp ∙ ap (λ x. x.stamp) b.2.is in
      let at_first = from_take n requests (a.0.stamp - 1) (Apply a.0.policy) first in
      let at_second = from_take m requests (b.0.stamp - 1) (Apply b.0.policy) second in
      let policies : a.0.policy ≡ b.0.policy =
      same_apply a.0.policy b.0.policy (sym at_first ∙ ap (λ k. slice_get requests (k - 1)) stamps ∙ at_second) in
      let rules : a.2.rule ≡ b.2.rule =
      same_Some a.2.rule b.2.rule (sym a.2.rule_there ∙ (λ i. slice_get (policies i).rules (place i).rule) ∙ b.2.rule_there) in
      let entries : a.2.entry ≡ b.2.entry =
      same_Some a.2.entry b.2.entry (sym a.2.entry_there ∙ (λ i. slice_get (section_of (place i).section (rules i)) (place i).entry) ∙ b.2.entry_there) in
      let made : Policy → ℕ → Place → Entry → Filter = λ policy stamp place entry.
      filter_at (record { policy = policy; stamp = stamp }) place.rule place.section place.entry entry in
      a.2.is ∙ (λ i. made (policies i) (stamps i) (place i) (entries i)) ∙ sym b.2.is
