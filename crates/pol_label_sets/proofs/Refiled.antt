-- The filing still fits the places, after each change of both.
use Rattle.std.proofs.Common.{◌≡◌, ◌==◌, ◌-◌, ◌<◌, ◌≤◌, ◌||◌, ◌&&◌, not, Bool, true, false, cond, ℕ, List, Some, None, option_map, Result, Ok, Err, OnOk, OnErr, refl, sym, ap, subst, ◌∙◌, inl, inr}
use Rattle.std.specs.Prelude.{nat_le}
use Rattle.std.proofs.lemmas.Bool.{and_parts, eqb-true, le-leb, lt-leb}
use Rattle.std.proofs.lemmas.Bool.Decides.{eqb_tells}
use Rattle.std.proofs.lemmas.Option.{same_Some}
use Rattle.pol_headings.specs.declared.heading.Heading.{Heading}
use Rattle.pol_headings.specs.Filed.{Drawers, is_filed}
use Rattle.pol_labels.specs.declared.label.Label.{Label}
use Rattle.pol_interner.specs.Slots.{Slot, changed, filled, free_place, one_less, one_more, slot_at}
use Rattle.pol_interner.proofs.SlotAt.{changed-here, changed-other, filled-here, filled-other, none-free}
use Rattle.pol_label_sets.specs.Carried.{carries_heading}
use Rattle.pol_label_sets.specs.Filed.{IsFiledApart, IsFiledAs, is_of, slot_carries}

-- ---- of truth values
and_yes : (b : Bool) → (b && true) ≡ b
and_yes true = refl
and_yes false = refl

and_no : (b : Bool) → (b && false) ≡ false
and_no true = refl
and_no false = refl

or_elsewhere : (a b : Bool) → (a || (b && false)) ≡ a
or_elsewhere true b = refl
or_elsewhere false b = and_no b

not_elsewhere : (a b : Bool) → (a && not (b && false)) ≡ a
not_elsewhere a true = and_yes a
not_elsewhere a false = and_yes a

not_itself : (a : Bool) → (a && not (a && true)) ≡ false
not_itself true = refl
not_itself false = refl

-- ---- of one slot
pub more-carries : (heading : Heading) (slot : Slot (List Label)) → slot_carries heading (one_more slot) ≡ slot_carries heading slot
more-carries heading None = refl
more-carries heading (Some own) = refl

-- where more than one holds it, or none
pub less-carries : (heading : Heading) (slot : Slot (List Label)) (holders : ℕ) → Some holders ≡ option_map (λ own. own.1) slot → 1 < holders → slot_carries heading (one_less slot) ≡ slot_carries heading slot
less-carries heading None holders is more = refl
less-carries heading (Some own) holders is more =
    let same : holders ≡ own.1 = same_Some holders own.1 is in
    ap (λ b. slot_carries heading (cond b None (Some (own.0, own.1 - 1)))) (ap (λ n. nat_le n 1) (sym same) ∙ lt-leb holders 1 more)

pub none-carries : (heading : Heading) (slot : Slot (List Label)) → None ≡ option_map (λ own. own.1) slot → slot_carries heading (one_less slot) ≡ slot_carries heading slot
none-carries heading None is = refl
none-carries heading (Some own) is = absurd cc

-- a slot by its parts
pub whole : (slot : Slot (List Label)) (labels : List Label) (holders : ℕ) → Some labels ≡ option_map (λ own. own.0) slot → Some holders ≡ option_map (λ own. own.1) slot → slot ≡ Some (labels, holders)
whole None labels holders set count = absurd cc
whole (Some own) labels holders set count = λ i. Some (same_Some own.0 labels (sym set) i, same_Some own.1 holders (sym count) i)

-- ---- of all
module _ (filing : Drawers) (slots : List (Slot (List Label))) (tied : IsFiledAs filing slots) where
  -- a set came, and its place was filed
  pub came : (labels : List Label) (new : Drawers) → ((heading : Heading) (other : ℕ) → is_filed new heading other ≡ (is_filed filing heading other || is_of labels (free_place slots) heading other)) → IsFiledAs new (filled (labels, 1) slots)
  came labels new filed heading place =
      let free = free_place slots in
      let carries = carries_heading heading labels in
      filed heading place
      ∙ ap (λ b. b || is_of labels free heading place) (tied heading place)
      ∙ elim (eqb_tells free place) [
        | inl here ↦
            ap (λ b. slot_carries heading (slot_at slots place) || (carries && b)) here.0
            ∙ ap (λ slot. slot_carries heading slot || (carries && true)) (ap (slot_at slots) (sym here.1) ∙ none-free slots)
            ∙ and_yes carries
            ∙ sym (ap (slot_carries heading) (ap (slot_at (filled (labels, 1) slots)) (sym here.1) ∙ filled-here (labels, 1) slots))
        | inr differs ↦
            ap (λ b. slot_carries heading (slot_at slots place) || (carries && b)) differs.0
            ∙ or_elsewhere (slot_carries heading (slot_at slots place)) carries
            ∙ sym (ap (slot_carries heading) (filled-other (labels, 1) slots place (λ same. differs.1 (sym same))))
      ]

  -- the place of a set that didn't come was taken from under its headings
  pub came_back : (labels : List Label) (mid new : Drawers) → IsFiledApart labels (free_place slots) filing mid
      → ((heading : Heading) (other : ℕ) → is_filed new heading other ≡ (is_filed mid heading other && not (is_of labels (free_place slots) heading other))) → IsFiledAs new slots
  came_back labels mid new apart gone heading place = gone heading place ∙ by (is_of labels (free_place slots) heading place) refl
    where
      by : (b : Bool) → is_of labels (free_place slots) heading place ≡ b → (is_filed mid heading place && not b) ≡ slot_carries heading (slot_at slots place)
      by true is =
          let here = eqb-true (free_place slots) place (and_parts (carries_heading heading labels) (free_place slots == place) is).1 in
          and_no (is_filed mid heading place) ∙ sym (ap (slot_carries heading) (ap (slot_at slots) (sym here) ∙ none-free slots))
      by false is = and_yes (is_filed mid heading place) ∙ apart heading place is ∙ tied heading place

  -- a count changed
  pub counted : (place : ℕ) (change : Slot (List Label) → Slot (List Label)) → change None ≡ None → ((heading : Heading) → slot_carries heading (change (slot_at slots place)) ≡ slot_carries heading (slot_at slots place)) → IsFiledAs filing (changed change place slots)
  counted place change stays same heading other =
      tied heading other
      ∙ sym (elim (eqb_tells other place) [
        | inl here ↦
            ap (slot_carries heading) (ap (slot_at (changed change place slots)) here.1 ∙ changed-here change place slots stays)
            ∙ same heading
            ∙ ap (λ p. slot_carries heading (slot_at slots p)) (sym here.1)
        | inr differs ↦ ap (slot_carries heading) (changed-other change place other slots differs.1)
      ])

  -- a set went, and its place was taken from under its headings
  pub went : (place holders : ℕ) (labels : List Label) (new : Drawers) → slot_at slots place ≡ Some (labels, holders) → holders ≤ 1
      → ((heading : Heading) (other : ℕ) → is_filed new heading other ≡ (is_filed filing heading other && not (is_of labels place heading other))) → IsFiledAs new (changed one_less place slots)
  went place holders labels new at last gone heading other =
      let carries = carries_heading heading labels in
      gone heading other
      ∙ ap (λ b. b && not (is_of labels place heading other)) (tied heading other)
      ∙ elim (eqb_tells place other) [
        | inl here ↦
            let left : one_less (Some (labels, holders)) ≡ None = ap (λ b. cond b None (Some (labels, holders - 1))) (le-leb holders 1 last) in
            ap (λ b. slot_carries heading (slot_at slots other) && not (carries && b)) here.0
            ∙ ap (λ slot. slot_carries heading slot && not (carries && true)) (ap (slot_at slots) (sym here.1) ∙ at)
            ∙ not_itself carries
            ∙ sym (ap (slot_carries heading) (ap (slot_at (changed one_less place slots)) (sym here.1) ∙ changed-here one_less place slots refl ∙ ap one_less at ∙ left))
        | inr differs ↦
            ap (λ b. slot_carries heading (slot_at slots other) && not (carries && b)) differs.0
            ∙ not_elsewhere (slot_carries heading (slot_at slots other)) carries
            ∙ sym (ap (slot_carries heading) (changed-other one_less place other slots (λ same. differs.1 (sym same))))
      ]

  -- one holder more, or want of memory
  pub held : {A E : Type 0} (place : ℕ) (new : List (Slot (List Label))) (result : Result A E) → OnOk result (new ≡ changed one_more place slots) → OnErr result (new ≡ slots) → IsFiledAs filing new
  held place new (Ok x) ok err = subst (IsFiledAs filing) (sym ok) (counted place one_more refl (λ heading. more-carries heading (slot_at slots place)))
  held place new (Err e) ok err = subst (IsFiledAs filing) (sym err) tied

  -- and what adds a set leaves
  pub came_ok : {A E : Type 0} (labels : List Label) (new : Drawers) (sets : List (Slot (List Label))) (result : Result A E)
      → ((heading : Heading) (other : ℕ) → is_filed new heading other ≡ (is_filed filing heading other || is_of labels (free_place slots) heading other)) → OnOk result (sets ≡ filled (labels, 1) slots) → OnOk result (IsFiledAs new sets)
  came_ok labels new sets (Ok x) filed ok = subst (IsFiledAs new) (sym ok) (came labels new filed)
  came_ok labels new sets (Err e) filed ok = tt
