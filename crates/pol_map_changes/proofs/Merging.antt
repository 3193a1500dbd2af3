-- Two lists of changes merged.
use Rattle.std.proofs.Common.{◌≡◌, ℕ, ◌≤◌, Bool, true, false, cond, List, [], ◌∷◌, ◌++◌, append-nil, drop, length, Option, Some, None, refl, sym, ap, subst, ◌∙◌, ◌⊎◌, inl, inr}
use Rattle.std.specs.FinMap as finite
use Rattle.std.specs.FinMap.Entries.{by_order}
use Rattle.std.proofs.lemmas.List.{drop_all}
use Rattle.std.specs.List.{AllByRecursion}
use Rattle.std.specs.List.Sorted.{IsStrictlySortedBy}
use Rattle.std.specs.Option.{option_or, unwrap_or}
use Rattle.std.specs.Ordering.{eq_by_cmp, ordering_reverse}
use Rattle.std.specs.declared.cmp.Ordering.TheVariants.{Less, Equal, Greater}
use Rattle.pol_mapkey.specs.MapKey.{key_cmp}
use Rattle.pol_mapkey.specs.declared.Kind.{Kind}
use Rattle.pol_mapkey.specs.declared.MapKey.{MapKey}
use Rattle.pol_mapkey.proofs.KeyOrder.{key_cmp_total, key_cmp-same}
use Rattle.pol_trie.specs.PolicyMap.{PolicyMap}
use Rattle.pol_map_changes.specs.declared.change.Change.{Change}
use Rattle.pol_map_changes.specs.Changes.{IsAscending, changed, change_order, key_of, kind_after, said}
use Rattle.pol_map_changes.specs.Merged.{merged, merged_from}
use Rattle.pol_map_changes.proofs.Said.{get_changed, unsaid_after}

-- ---- what holds of each change of both lists holds of each of the merged
module _ (P : Change → Type 0) where
  every_from : (c : Change) (rest : List Change → List Change) → P c → ((zs : List Change) → AllByRecursion P zs → AllByRecursion P (rest zs))
      → (ys : List Change) → AllByRecursion P ys → AllByRecursion P (merged_from c rest ys)
  every_from c rest here later [] all = (here, later [] all)
  every_from c rest here later (d ∷ ds) all =
      elim (change_order c d) as (λ o. AllByRecursion P (by_order o (c ∷ rest (d ∷ ds)) (d ∷ rest ds) (d ∷ merged_from c rest ds))) [
        | Less ↦ (here, later (d ∷ ds) all)
        | Equal ↦ (all.0, later ds all.1)
        | Greater ↦ (all.0, every_from c rest here later ds all.1)
      ]

  every_merged : (xs ys : List Change) → AllByRecursion P xs → AllByRecursion P ys → AllByRecursion P (merged xs ys)
  every_merged [] ys one other = other
  every_merged (c ∷ cs) ys one other = every_from c (merged cs) one.0 (λ zs all. every_merged cs zs one.1 all) ys other

-- ---- a key below one is below those above it
below_trans : (k l : MapKey) (cs : List Change) → key_cmp k l ≡ Less → AllByRecursion (λ e. key_cmp l (key_of e) ≡ Less) cs → AllByRecursion (λ e. key_cmp k (key_of e) ≡ Less) cs
below_trans k l [] p all = tt
below_trans k l (e ∷ es) p all = (key_cmp_total.trans k l (key_of e) p all.0, below_trans k l es p all.1)

-- ---- the merged list ascends
from_ascends : (c : Change) (cs : List Change) → AllByRecursion (λ d. change_order c d ≡ Less) cs → ((zs : List Change) → IsAscending zs → IsAscending (merged cs zs))
    → (ys : List Change) → IsAscending ys → IsAscending (merged_from c (merged cs) ys)
unfolding IsStrictlySortedBy
from_ascends c cs above later [] s = (every_merged (λ e. change_order c e ≡ Less) cs [] above tt, later [] tt)
from_ascends c cs above later (d ∷ ds) s =
    elim (change_order c d) as (λ o. change_order c d ≡ o → IsAscending (by_order o (c ∷ merged cs (d ∷ ds)) (d ∷ merged cs ds) (d ∷ merged_from c (merged cs) ds))) [
      | Less ↦ λ p. (every_merged (λ e. change_order c e ≡ Less) cs (d ∷ ds) above (p, below_trans (key_of c) (key_of d) ds p s.0), later (d ∷ ds) s)
      | Equal ↦ λ p. (
        every_merged (λ e. change_order d e ≡ Less) cs ds
            (subst (λ k. AllByRecursion (λ e. key_cmp k (key_of e) ≡ Less) cs) (key_cmp-same (key_of c) (key_of d) p) above) s.0,
        later ds s.1,
      )
      | Greater ↦ λ p.
          let under : change_order d c ≡ Less = key_cmp_total.antisymm (key_of d) (key_of c) ∙ ap ordering_reverse p in (
            every_from (λ e. change_order d e ≡ Less) c (merged cs) under
                (λ zs all. every_merged (λ e. change_order d e ≡ Less) cs zs (below_trans (key_of d) (key_of c) cs under above) all) ds s.0,
            from_ascends c cs above later ds s.1,
          )
    ] refl

pub merged_ascends : (xs ys : List Change) → IsAscending xs → IsAscending ys → IsAscending (merged xs ys)
unfolding IsStrictlySortedBy
merged_ascends [] ys one other = other
merged_ascends (c ∷ cs) ys one other = from_ascends c cs one.0 (λ zs s. merged_ascends cs zs one.1 s) ys other

-- ---- what it says
or_none : {X : Type 0} (o : Option X) → o ≡ option_or o None
or_none None = refl
or_none (Some x) = refl

from_said : (q : MapKey) (c : Change) (cs : List Change) → ((zs : List Change) → IsAscending zs → said (merged cs zs) q ≡ option_or (said zs q) (said cs q))
    → (ys : List Change) → IsAscending ys → said (merged_from c (merged cs) ys) q ≡ option_or (said ys q) (said (c ∷ cs) q)
unfolding IsStrictlySortedBy
from_said q c cs later [] s = ap (cond (eq_by_cmp key_cmp q (key_of c)) (Some (kind_after c))) (later [] tt)
from_said q c cs later (d ∷ ds) s =
    elim (change_order c d) as (λ o. change_order c d ≡ o → said (by_order o (c ∷ merged cs (d ∷ ds)) (d ∷ merged cs ds) (d ∷ merged_from c (merged cs) ds)) q ≡ option_or (said (d ∷ ds) q) (said (c ∷ cs) q)) [
      | Less ↦ λ p. less p (eq_by_cmp key_cmp q (key_of c)) refl
      | Equal ↦ λ p. equal (ap (eq_by_cmp key_cmp q) (key_cmp-same (key_of c) (key_of d) p)) (eq_by_cmp key_cmp q (key_of d)) refl
      | Greater ↦ λ p. greater (from_said q c cs later ds s.1) (eq_by_cmp key_cmp q (key_of d))
    ] refl
  where
    less : change_order c d ≡ Less → (b : Bool) → eq_by_cmp key_cmp q (key_of c) ≡ b
        → cond b (Some (kind_after c)) (said (merged cs (d ∷ ds)) q) ≡ option_or (said (d ∷ ds) q) (cond b (Some (kind_after c)) (said cs q))
    less p true tie = sym (ap (λ o. option_or o (Some (kind_after c))) (unsaid_after c q (d ∷ ds) (p, below_trans (key_of c) (key_of d) ds p s.0) tie))
    less p false other = later (d ∷ ds) s

    equal : eq_by_cmp key_cmp q (key_of c) ≡ eq_by_cmp key_cmp q (key_of d) → (b : Bool) → eq_by_cmp key_cmp q (key_of d) ≡ b
        → cond b (Some (kind_after d)) (said (merged cs ds) q) ≡ option_or (cond b (Some (kind_after d)) (said ds q)) (said (c ∷ cs) q)
    equal same true tie = refl
    equal same false other = later ds s.1 ∙ ap (λ b. option_or (said ds q) (cond b (Some (kind_after c)) (said cs q))) (sym (same ∙ other))

    greater : said (merged_from c (merged cs) ds) q ≡ option_or (said ds q) (said (c ∷ cs) q) → (b : Bool) → cond b (Some (kind_after d)) (said (merged_from c (merged cs) ds) q) ≡ option_or (cond b (Some (kind_after d)) (said ds q)) (said (c ∷ cs) q)
    greater rest true = refl
    greater rest false = rest

pub merged_said : (xs ys : List Change) → IsAscending ys → (q : MapKey) → said (merged xs ys) q ≡ option_or (said ys q) (said xs q)
merged_said [] ys s q = or_none (said ys q)
merged_said (c ∷ cs) ys s q = from_said q c cs (λ zs z. merged_said cs zs z q) ys s

-- ---- what it makes of a table
one_then_other : (one other : Option (Option Kind)) (old : Option Kind) → unwrap_or (option_or other one) old ≡ unwrap_or other (unwrap_or one old)
one_then_other one None old = refl
one_then_other one (Some x) old = refl

pub merged_leads : (xs ys : List Change) → IsAscending xs → IsAscending ys → (t : PolicyMap) → changed (merged xs ys) t ≡ changed ys (changed xs t)
merged_leads xs ys one other t =
    finite.same_map key_cmp_total key_cmp-same (changed (merged xs ys) t) (changed ys (changed xs t))
    (λ q. get_changed (merged xs ys) (merged_ascends xs ys one other) t q
    ∙ ap (λ o. unwrap_or o (finite.get t q)) (merged_said xs ys other q)
    ∙ one_then_other (said xs q) (said ys q) (finite.get t q)
    ∙ sym (get_changed ys other (changed xs t) q ∙ ap (unwrap_or (said ys q)) (get_changed xs one t q)))

-- ---- where one list is merged whole, the rest of the other follows
merged_none : (xs : List Change) → merged xs [] ≡ xs
merged_none [] = refl
merged_none (c ∷ cs) = ap (λ r. c ∷ r) (merged_none cs)

ended : (acc xs ys : List Change) → (xs ≡ []) ⊎ (ys ≡ []) → (acc ++ xs) ++ ys ≡ acc ++ merged xs ys
ended acc xs ys (inl none) =
    ap (λ l. (acc ++ l) ++ ys) none ∙ ap (λ l. l ++ ys) (append-nil acc) ∙ ap (λ l. acc ++ merged l ys) (sym none)
ended acc xs ys (inr none) =
    ap (λ l. (acc ++ xs) ++ l) none ∙ append-nil (acc ++ xs) ∙ ap (λ l. acc ++ l) (sym (merged_none xs)) ∙ ap (λ l. acc ++ merged xs l) (sym none)

pub finish : (xs ys : List Change) (i j : ℕ) (acc back_x back_y one two : List Change) → (length xs ≤ i) ⊎ (length ys ≤ j)
    → one ≡ acc ++ back_x → two ≡ one ++ back_y → back_x ≡ drop i xs → back_y ≡ drop j ys → acc ++ merged (drop i xs) (drop j ys) ≡ merged xs ys → two ≡ merged xs ys
finish xs ys i j acc back_x back_y one two end first second is_x is_y all =
    second ∙ ap (λ l. l ++ back_y) first ∙ (λ k. (acc ++ is_x k) ++ is_y k) ∙ ended acc (drop i xs) (drop j ys) (elim end [ inl past ↦ inl (drop_all i xs past) | inr past ↦ inr (drop_all j ys past) ]) ∙ all
