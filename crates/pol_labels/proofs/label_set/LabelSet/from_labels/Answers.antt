use Rattle.std.proofs.Common.{◌≡◌, ◌++◌, ℕ, List, length, take, drop, sym, ◌∙◌, ap, Bool, true, false, subst, refl, Result, Ok, Err, Some, IfOk}
use Rattle.std.specs.Result.{OnOk, is_err}
use Rattle.std.specs.Bool.{OnTrue, OnFalse}
use Rattle.std.specs.List.Sorted.{IsPermutation}
use Rattle.std.proofs.Math.Seq.{take-append_seam}
use Rattle.pol_labels.specs.declared.label.Label.{Label}
use Rattle.pol_labels.specs.Order.{IsLabelSet, has_duplicate_key, label_set_of, NeighboursAreApart}
use Rattle.pol_labels.proofs.Places.{IsLabelSet-sorted, has_duplicate_key-IsPermutation, label_set_of-IsPermutation, IsLabelSet-no_duplicate}
use Rattle.pol_labels.proofs.label_set.LabelSet.from_labels.Goals as goal

-- a list written over one as long
written_over : (n : ℕ) (new old : List Label) → length new ≡ length old → n ≡ length old → take n (new ++ drop (length new) old) ≡ new
written_over n new old same all = ap (λ k. take k (new ++ drop (length new) old)) (all ∙ sym same) ∙ take-append_seam new (drop (length new) old)

holds_on_ok : {T E : Type 0} {P : Type 0} (r : Result T E) → is_err r ≡ false → OnOk r P → P
holds_on_ok (Ok value) ok holds = holds
holds_on_ok (Err error) ok holds = cc

holds_on_true : {P : Type 0} (b : Bool) → b ≡ true → OnTrue b P → P
holds_on_true true is holds = holds
holds_on_true false is holds = cc

holds_on_false : {P : Type 0} (b : Bool) → b ≡ false → OnFalse b P → P
holds_on_false true is holds = cc
holds_on_false false is holds = holds

pub returns-then-has_equal_neighbours-clause-duplicate :
    goal.returns-then-has_equal_neighbours-clause-duplicate
returns-then-has_equal_neighbours-clause-duplicate c _ =
    let value = c.as_mut_slice.ensures.value in
    let whole : c.as_slice.result.now ≡ c.sort.new.self =
    c.as_slice.ensures.value ∙ written_over _ _ _ (c.sort.ensures.len ∙ ap length value) (sym c.as_mut_slice.ensures.len ∙ ap length value) in
    let found = holds_on_true _ c.if-has_equal_neighbours.true c.has_equal_neighbours.ensures.found in
    let moved = subst (λ xs. IsPermutation xs c.sort.new.self) value c.sort.ensures.permutation in
    has_duplicate_key-IsPermutation _ _ moved ∙ (sym (ap has_duplicate_key whole) ∙ found)

pub shared-requires : goal.shared-requires
shared-requires c =
    let value = c.as_mut_slice.ensures.value in
    let whole : c.as_slice.result.now ≡ c.sort.new.self =
    c.as_slice.ensures.value ∙ written_over _ _ _ (c.sort.ensures.len ∙ ap length value) (sym c.as_mut_slice.ensures.len ∙ ap length value) in
    let sorted = holds_on_ok c.sort.result (sym c.is_err.ensures.value ∙ c.if-is_err.false) c.sort.ensures.sorted in
    let apart = holds_on_false _ c.if-has_equal_neighbours.false c.has_equal_neighbours.ensures.apart in
    subst IsLabelSet (sym whole ∙ c.as_slice.ensures.value)
    (IsLabelSet-sorted _ (λ _ _. refl) _ sorted (subst NeighboursAreApart whole apart))

-- where a set is made, it is that of these labels
set_made : {E : Type 0} (given labels : List Label) (r : Result (List Label) E) → label_set_of given ≡ Some labels → IfOk r (λ set. set ≡ labels)
    → IfOk r (λ set. label_set_of given ≡ Some set)
set_made given labels (Ok set) of is = of ∙ ap Some (sym is)
set_made given labels (Err error) of is = tt

on_ok : {A E : Type 0} {P : Type 0} (r : Result A E) → P → OnOk r P
on_ok (Ok value) holds = holds
on_ok (Err error) holds = tt

pub returns-clause-set : goal.returns-clause-set
returns-clause-set c =
    let value = c.as_mut_slice.ensures.value in
    let moved = subst (λ xs. IsPermutation xs c.sort.new.self) value c.sort.ensures.permutation in
    let whole = c.as_slice.ensures.value ∙ written_over _ _ _ (c.sort.ensures.len ∙ ap length value) (sym c.as_mut_slice.ensures.len ∙ ap length value) in
    let same = sym c.as_slice.ensures.value ∙ whole in
    set_made c.args.labels.items _ c.shared.result (label_set_of-IsPermutation _ _ (subst (IsPermutation c.args.labels.items) (sym same) moved) (shared-requires c.before)) c.shared.ensures.set

pub returns-clause-distinct : goal.returns-clause-distinct
returns-clause-distinct c =
    let value = c.as_mut_slice.ensures.value in
    let moved = subst (λ xs. IsPermutation xs c.sort.new.self) value c.sort.ensures.permutation in
    let whole = c.as_slice.ensures.value ∙ written_over _ _ _ (c.sort.ensures.len ∙ ap length value) (sym c.as_mut_slice.ensures.len ∙ ap length value) in
    let same = sym c.as_slice.ensures.value ∙ whole in
    on_ok c.shared.result (has_duplicate_key-IsPermutation _ _ moved ∙ (sym (ap has_duplicate_key same) ∙ IsLabelSet-no_duplicate _ (shared-requires c.before)))
