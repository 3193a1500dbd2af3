-- Policies that don't select some labels, and their filters.
use Rattle.std.proofs.Common.{◌≡◌, ℕ, ◌+◌, Bool, true, false, cond, not, ◌||◌, ◌&&◌, List, [], ◌∷◌, ◌++◌, map, IsTrue, IfSome, Option, None, Some, refl, sym, ap, ◌∙◌}
use Rattle.std.specs.List.{AllByRecursion, IsDistinct, flat_map, list_any}
use Rattle.std.proofs.lemmas.Bool.{both_ways, not-true, or_parts}
use Rattle.pol_data.proofs.Every.{every-filter, every-weaker}
use Rattle.pol_labels.specs.declared.label.Label.{Label}
use Rattle.pol_labels.specs.Match.{matches}
use Rattle.pol_ports.specs.declared.Direction.{Direction}
use Rattle.pol_ports.specs.declared.Direction.TheVariants.{Ingress, Egress}
use Rattle.pol_rule.specs.Keys.{same_key}
use Rattle.pol_rule.specs.declared.policy.PolicyKey.{PolicyKey}
use Rattle.pol_rule.specs.declared.policy.Rule.{Rule}
use Rattle.pol_model.specs.declared.options.Mode.{Mode}
use Rattle.pol_model.specs.declared.options.Mode.TheVariants.{Default, Always, Never}
use Rattle.pol_model.specs.declared.row.Stamped.{Stamped}
use Rattle.pol_model.specs.Enforced.{rule_says}
use Rattle.pol_model.specs.Fault.{is_init}
use Rattle.pol_model.specs.Policies.{applied, is_of_key, policy_at, removed}
use Rattle.pol_model.specs.Verdict.{is_never}
use Rattle.pol_model_laws.proofs.PolicyHolders.{same_key-Decides}
use Rattle.pol_filters.specs.Resolved.{filters_for, filters_in, labels_enforced, policy_filters, policy_says, rule_filters}
use Rattle.pol_kept_filters.specs.declared.kept.Kept.{Kept}
use Rattle.pol_kept_filters.specs.Kept.{AreKeptOf, IsKeptOf, KeysDiffer, selects, without_old, without_selected}

module _ (labels : List Label) (dir : Direction) where
  -- rules that don't select the labels have no filters of them
  no_filters : (stamped : Stamped) (n : ℕ) (rules : List Rule) → list_any (λ rule. matches rule.subject labels) rules ≡ false → policy_filters stamped labels dir n rules ≡ []
  no_filters stamped n [] none = refl
  no_filters stamped n (rule ∷ others) none =
      let parts = or_parts (matches rule.subject labels) (list_any (λ rule. matches rule.subject labels) others) none in
      ap (λ b. cond b (rule_filters stamped dir n rule ++ policy_filters stamped labels dir (n + 1) others) (policy_filters stamped labels dir (n + 1) others)) parts.0
      ∙ no_filters stamped (n + 1) others parts.1

  -- and say nothing of a direction
  says_nothing : (rules : List Rule) → list_any (λ rule. matches rule.subject labels) rules ≡ false → list_any (λ rule. matches rule.subject labels && rule_says dir rule) rules ≡ false
  says_nothing [] none = refl
  says_nothing (rule ∷ others) none =
      let parts = or_parts (matches rule.subject labels) (list_any (λ rule. matches rule.subject labels) others) none in
      ap (λ b. (b && rule_says dir rule) || list_any (λ rule. matches rule.subject labels && rule_says dir rule) others) parts.0
      ∙ says_nothing others parts.1

  policy_says_nothing : (stamped : Stamped) → selects labels stamped.policy ≡ false → policy_says labels dir stamped ≡ false
  unfolding policy_says
  policy_says_nothing stamped none = says_nothing stamped.policy.rules none

-- ---- lists of policies, of which those that come and go give nothing
module _ {X : Type 0} (f : Stamped → List X) where
  GivesNone : Stamped → Type 0
  GivesNone stamped = f stamped ≡ []

  flat_applied : (new : Stamped) (policies : List Stamped) → f new ≡ [] → IfSome (policy_at new.policy.key policies) (λ old. f old ≡ []) → flat_map f (applied new policies) ≡ flat_map f policies
  flat_applied new [] none old = ap (λ xs. xs ++ []) none
  flat_applied new (x ∷ others) none old = by (is_of_key new.policy.key x) (flat_applied new others none) old
    where
      by : (b : Bool) → (IfSome (policy_at new.policy.key others) (λ old. f old ≡ []) → flat_map f (applied new others) ≡ flat_map f others) → IfSome (cond b (Some x) (policy_at new.policy.key others)) (λ old. f old ≡ [])
          → flat_map f (cond b (new ∷ others) (x ∷ applied new others)) ≡ f x ++ flat_map f others
      by true later old = ap (λ xs. xs ++ flat_map f others) (none ∙ sym old)
      by false later old = ap (λ xs. f x ++ xs) (later old)

  flat_removed : (key : PolicyKey) (policies : List Stamped) → AllByRecursion (λ stamped. is_of_key key stamped ≡ true → f stamped ≡ []) policies → flat_map f (removed key policies) ≡ flat_map f policies
  flat_removed key [] none = refl
  flat_removed key (x ∷ others) none = by (is_of_key key x) none.0 (flat_removed key others none.1)
    where
      by : (b : Bool) → (b ≡ true → f x ≡ []) → flat_map f (removed key others) ≡ flat_map f others → flat_map f (cond (not b) (x ∷ removed key others) (removed key others)) ≡ f x ++ flat_map f others
      by true own rest = rest ∙ ap (λ xs. xs ++ flat_map f others) (sym (own refl))
      by false own rest = ap (λ xs. f x ++ xs) rest

module _ (p : Stamped → Bool) where
  any_applied : (new : Stamped) (policies : List Stamped) → p new ≡ false → IfSome (policy_at new.policy.key policies) (λ old. p old ≡ false) → list_any p (applied new policies) ≡ list_any p policies
  any_applied new [] none old = ap (λ b. b || false) none
  any_applied new (x ∷ others) none old = by (is_of_key new.policy.key x) (any_applied new others none) old
    where
      by : (b : Bool) → (IfSome (policy_at new.policy.key others) (λ old. p old ≡ false) → list_any p (applied new others) ≡ list_any p others) → IfSome (cond b (Some x) (policy_at new.policy.key others)) (λ old. p old ≡ false)
          → list_any p (cond b (new ∷ others) (x ∷ applied new others)) ≡ (p x || list_any p others)
      by true later old = ap (λ b. b || list_any p others) (none ∙ sym old)
      by false later old = ap (λ b. p x || b) (later old)

  any_removed : (key : PolicyKey) (policies : List Stamped) → AllByRecursion (λ stamped. is_of_key key stamped ≡ true → p stamped ≡ false) policies → list_any p (removed key policies) ≡ list_any p policies
  any_removed key [] none = refl
  any_removed key (x ∷ others) none = by (is_of_key key x) none.0 (any_removed key others none.1)
    where
      by : (b : Bool) → (b ≡ true → p x ≡ false) → list_any p (removed key others) ≡ list_any p others → list_any p (cond (not b) (x ∷ removed key others) (removed key others)) ≡ (p x || list_any p others)
      by true own rest = rest ∙ ap (λ b. b || list_any p others) (sym (own refl))
      by false own rest = ap (λ b. p x || b) rest

-- what holds of the policy of a key holds of each of that key
module _ (Q : Stamped → Type 0) (key : PolicyKey) where
  others_differ : (x : Stamped) (others : List Stamped) → is_of_key key x ≡ true → AllByRecursion (λ other. same_key x.policy.key other ≡ false) (map (λ s. s.policy.key) others)
      → AllByRecursion (λ stamped. is_of_key key stamped ≡ true → Q stamped) others
  others_differ x [] own differ = tt
  others_differ x (y ∷ others) own differ =
      let not_here : is_of_key key y ≡ true → Q y =
      λ also.
      let keys : x.policy.key ≡ y.policy.key = (same_key-Decides x.policy.key key).0 own ∙ sym ((same_key-Decides y.policy.key key).0 also) in
      absurd (both_ways (same_key x.policy.key y.policy.key) differ.0 ((same_key-Decides x.policy.key y.policy.key).1 keys)) in
      (not_here, others_differ x others own differ.1)

  each_of_key : (policies : List Stamped) → KeysDiffer policies → IfSome (policy_at key policies) Q → AllByRecursion (λ stamped. is_of_key key stamped ≡ true → Q stamped) policies
  unfolding IsDistinct
  each_of_key [] differ own = tt
  each_of_key (x ∷ others) differ own = by (is_of_key key x) refl (each_of_key others differ.1) own
    where
      by : (b : Bool) → is_of_key key x ≡ b → (IfSome (policy_at key others) Q → AllByRecursion (λ stamped. is_of_key key stamped ≡ true → Q stamped) others) → IfSome (cond b (Some x) (policy_at key others)) Q → AllByRecursion (λ stamped. is_of_key key stamped ≡ true → Q stamped) (x ∷ others)
      by true here later own = ((λ _. own), others_differ x others here differ.0)
      by false other later own = ((λ here. absurd (both_ways (is_of_key key x) other here)), later own)

-- ---- the filters of labels
module _ (labels : List Label) (policies others : List Stamped) (filters : (dir : Direction) → filters_in others labels dir ≡ filters_in policies labels dir)
    (says : (dir : Direction) → list_any (policy_says labels dir) others ≡ list_any (policy_says labels dir) policies) where
  same_enforced : (mode : Mode) (dir : Direction) → labels_enforced mode others labels dir ≡ labels_enforced mode policies labels dir
  same_enforced Always dir = refl
  same_enforced Never dir = refl
  same_enforced Default dir = ap (λ b. is_init labels || b) (says dir)

  same_filters : (mode : Mode) (localhost : Bool) → filters_for others labels mode localhost ≡ filters_for policies labels mode localhost
  same_filters mode localhost = λ i. record {
    never = is_never mode;
    ingress_enforced = same_enforced mode Ingress i;
    egress_enforced = same_enforced mode Egress i;
    localhost = localhost;
    ingress = filters Ingress i;
    egress = filters Egress i;
  }

IfSome-weaker : {X : Type 0} (P Q : X → Type 0) → ((x : X) → P x → Q x) → (o : Option X) → IfSome o P → IfSome o Q
IfSome-weaker P Q weaker None is = is
IfSome-weaker P Q weaker (Some x) is = weaker x is

module _ (policies : List Stamped) (labels : List Label) (mode : Mode) (localhost : Bool) where
  pub same_with : (new : Stamped) → selects labels new.policy ≡ false → IfSome (policy_at new.policy.key policies) (λ old. selects labels old.policy ≡ false)
      → filters_for (applied new policies) labels mode localhost ≡ filters_for policies labels mode localhost
  same_with new none old =
      same_filters labels policies (applied new policies)
      (λ dir. flat_applied (λ stamped. policy_filters stamped labels dir 0 stamped.policy.rules) new policies (no_filters labels dir new 0 new.policy.rules none)
      (IfSome-weaker (λ old. selects labels old.policy ≡ false) (λ old. policy_filters old labels dir 0 old.policy.rules ≡ []) (λ old none. no_filters labels dir old 0 old.policy.rules none) (policy_at new.policy.key policies) old))
      (λ dir. any_applied (policy_says labels dir) new policies (policy_says_nothing labels dir new none)
      (IfSome-weaker (λ old. selects labels old.policy ≡ false) (λ old. policy_says labels dir old ≡ false) (λ old none. policy_says_nothing labels dir old none) (policy_at new.policy.key policies) old))
      mode localhost

  pub same_without : (key : PolicyKey) → KeysDiffer policies → IfSome (policy_at key policies) (λ old. selects labels old.policy ≡ false)
      → filters_for (removed key policies) labels mode localhost ≡ filters_for policies labels mode localhost
  same_without key differ old =
      let each = each_of_key (λ stamped. selects labels stamped.policy ≡ false) key policies differ old in
      same_filters labels policies (removed key policies)
      (λ dir. flat_removed (λ stamped. policy_filters stamped labels dir 0 stamped.policy.rules) key policies
      (every-weaker (λ stamped. is_of_key key stamped ≡ true → selects labels stamped.policy ≡ false) (λ stamped. is_of_key key stamped ≡ true → policy_filters stamped labels dir 0 stamped.policy.rules ≡ [])
      (λ stamped none here. no_filters labels dir stamped 0 stamped.policy.rules (none here)) policies each))
      (λ dir. any_removed (policy_says labels dir) key policies
      (every-weaker (λ stamped. is_of_key key stamped ≡ true → selects labels stamped.policy ≡ false) (λ stamped. is_of_key key stamped ≡ true → policy_says labels dir stamped ≡ false)
      (λ stamped none here. policy_says_nothing labels dir stamped (none here)) policies each))
      mode localhost

-- ---- what is left
-- what holds of each that an old policy doesn't select
left_of_old : (P : Kept → Type 0) (old : Option Stamped) (rows : List Kept) → AllByRecursion (λ kept. IfSome old (λ old. selects kept.labels old.policy ≡ false) → P kept) rows
    → AllByRecursion P (without_old old rows)
left_of_old P None rows all = every-weaker (λ kept. IfSome {T = Stamped} None (λ old. selects kept.labels old.policy ≡ false) → P kept) P (λ kept is. is tt) rows all
left_of_old P (Some old) rows all =
    every-filter P (λ kept. not (selects kept.labels old.policy)) rows
    (every-weaker (λ kept. selects kept.labels old.policy ≡ false → P kept) (λ kept. IsTrue (not (selects kept.labels old.policy)) → P kept) (λ kept is unselected. is (not-true (selects kept.labels old.policy) unselected)) rows all)

module _ (policies : List Stamped) (mode : Mode) (rows : List Kept) (are : AreKeptOf policies mode rows) where
  pub left_with : (new : Stamped) → AreKeptOf (applied new policies) mode (without_old (policy_at new.policy.key policies) (without_selected new.policy rows))
  left_with new =
      let old = policy_at new.policy.key policies in
      left_of_old (λ kept. IsKeptOf (applied new policies) mode kept) old (without_selected new.policy rows)
      (every-filter (λ kept. IfSome old (λ old. selects kept.labels old.policy ≡ false) → IsKeptOf (applied new policies) mode kept) (λ kept. not (selects kept.labels new.policy)) rows
      (every-weaker (λ kept. IsKeptOf policies mode kept)
      (λ kept. IsTrue (not (selects kept.labels new.policy)) → IfSome old (λ old. selects kept.labels old.policy ≡ false) → IsKeptOf (applied new policies) mode kept)
      (λ kept is unselected none. is ∙ sym (same_with policies kept.labels mode kept.localhost new (not-true (selects kept.labels new.policy) unselected) none)) rows are))

  pub left_without : (key : PolicyKey) → KeysDiffer policies → AreKeptOf (removed key policies) mode (without_old (policy_at key policies) rows)
  left_without key differ =
      let old = policy_at key policies in
      left_of_old (λ kept. IsKeptOf (removed key policies) mode kept) old rows
      (every-weaker (λ kept. IsKeptOf policies mode kept) (λ kept. IfSome old (λ old. selects kept.labels old.policy ≡ false) → IsKeptOf (removed key policies) mode kept)
      (λ kept is none. is ∙ sym (same_without policies kept.labels mode kept.localhost key differ none)) rows are)
