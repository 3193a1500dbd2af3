-- A key takes the least free place.
use Rattle.std.proofs.Common.{◌≡◌, ◌≢◌, ℕ, ◌+◌, ◌<◌, ◌^◌, true, List, [], ◌∷◌, ◌++◌, length, get_or, set, slice_get, Option, Some, None, refl, sym, ap, subst, ◌∙◌, inl, inr, arith}
use Rattle.std.specs.BinaryHeap.{PopsGreatest}
use Rattle.std.specs.List.Sorted.{IsPermutation}
use Rattle.std.specs.declared.cmp.Reverse.{Reverse}
use Rattle.std.proofs.lemmas.Bool.{cases_lt}
use Rattle.std.proofs.lemmas.Bool.Decides.{eqb_tells}
use Rattle.std.proofs.lemmas.List.{get_or-set_same, get_or-set_other, get_or_past, get_or_append_left, length-map, length-set, length_push, map-append, map-set}
use Rattle.std.proofs.lemmas.Option.{same_Some, slice_get-get_or, slice_get_within}
use Rattle.std.proofs.Math.Seq.{get_or-append_seam}
use Rattle.pol_interner.specs.declared.interner.Held.{Held}
use Rattle.pol_interner.specs.Slots.{filled, free_place, slot_at}
use Rattle.pol_interner.specs.Tied.{all_shown, empty_at, least_first, shown, HasRoom, IsFreeOf, IsTied}
use Rattle.pol_interner.proofs.FreePlaces.{empty_is_none, empty_within, IsFreeOf-grown, IsFreeOf-popped, least_at_end, least_on_heap, popped_is_empty}
use Rattle.pol_interner.proofs.Shown.{filled-end, filled-set, get-more, shown-entry, shown-more, slot_at-shown}

module _ {K : Type 0} (entries : List (K × ℕ)) (slots : List (Option Held)) (key : K) (place : ℕ) (tied : IsTied entries slots) where
  abbrev more : List (K × ℕ)
  more = entries ++ (key, place) ∷ []

  abbrev new : Held
  new = record { index = length entries; holders = 1 }

  last-entry : slice_get more (length entries) ≡ Some (key, place)
  last-entry =
      slice_get-get_or more (length entries) (key, place) (omega (arith, length_push entries (key, place)))
      ∙ ap Some (get_or-append_seam entries (key, place) [] (key, place))

  entry_within : (other : ℕ) (held : Held) → get_or slots other None ≡ Some held → held.index < length entries
  entry_within other held at = let entry = tied.entry other held at in slice_get_within entries held.index (entry.0, other) entry.1

  same-shown : all_shown more slots ≡ all_shown entries slots
  same-shown = shown-more entries (key, place) slots entry_within

  -- the slots have the new one at the place, and are else the same
  record Puts (others : List (Option Held)) : Type 0 where
    here : get_or others place None ≡ Some new
    rest : (other : ℕ) → other ≢ place → get_or others other None ≡ get_or slots other None

  puts-tied : (others : List (Option Held)) → Puts others → get_or slots place None ≡ None → IsTied more others
  puts-tied others puts none = record {
    entry = λ other held at. elim (eqb_tells other place) [
      | inl same ↦
          let is = same_Some new held (sym puts.here ∙ ap (λ p. get_or others p None) (sym same.1) ∙ at) in
          (key, ap (λ h. slice_get more h.index) (sym is) ∙ last-entry ∙ ap (λ p. Some (key, p)) (sym same.1))
      | inr differs ↦
          let old = sym (puts.rest other differs.1) ∙ at in
          let entry = tied.entry other held old in
          (entry.0, get-more entries (key, place) held.index (entry_within other held old) ∙ entry.1)
    ];
    slot = λ index own other at. elim (cases_lt index (length entries)) [
      | inl within ↦
          let slot = tied.slot index own other (sym (get-more entries (key, place) index within) ∙ at) in
          let differs : other ≢ place = λ same. some_is_none (sym slot.1 ∙ ap (λ p. get_or slots p None) same ∙ none) in
          (slot.0, puts.rest other differs ∙ slot.1, slot.2)
      | inr past ↦
          let last : index ≡ length entries = omega (arith, past, slice_get_within more index (own, other) at, length_push entries (key, place)) in
          let pair = same_Some (key, place) (own, other) (sym last-entry ∙ ap (slice_get more) (sym last) ∙ at) in
          (new, ap (λ p. get_or others p None) (sym (ap (λ e. e.1) pair)) ∙ puts.here, sym last)
    ];
  }
    where
      some_is_none : {h : Held} → Some h ≡ None → ⊥
      some_is_none e = cc

  -- one of the free places
  module _ (free rest : List (Reverse ℕ)) (first : Reverse ℕ) (capacity : ℕ) (is : IsFreeOf free (all_shown entries slots)) (room : HasRoom (all_shown entries slots) capacity) (least : place ≡ free_place (all_shown entries slots))
      (perm : IsPermutation free (first ∷ rest)) (pops : PopsGreatest least_first free first rest) where
    empty : empty_at (all_shown entries slots) first.0 ≡ true
    empty = popped_is_empty (all_shown entries slots) free rest first is perm

    first_is : first.0 ≡ place
    first_is = sym (least ∙ least_on_heap (all_shown entries slots) first free is (pops is.heap).1 empty)

    within_shown : place < length (all_shown entries slots)
    within_shown = subst (λ p. p < length (all_shown entries slots)) first_is (empty_within (all_shown entries slots) first.0 empty)

    pub popped_within : place < length slots
    popped_within = omega (arith, within_shown, length-map slots (shown entries))

    popped_none : get_or slots place None ≡ None
    popped_none = by (get_or slots place None) refl
      where
        by : (slot : Option Held) → get_or slots place None ≡ slot → slot ≡ None
        by None at = refl
        by (Some held) at =
            let entry = tied.entry place held at in
            absurd (some_is_none (sym (slot_at-shown entries slots place ∙ ap (shown entries) at ∙ shown-entry entries held entry.0 place entry.1) ∙ ap (slot_at (all_shown entries slots)) (sym first_is) ∙ empty_is_none (all_shown entries slots) first.0 empty))
          where
            some_is_none : {own : K × ℕ} → Some own ≡ None → ⊥
            some_is_none e = cc

    popped-set : all_shown more (set slots place (Some new)) ≡ set (all_shown entries slots) place (Some (key, 1))
    popped-set =
        map-set (shown more) slots place (Some new)
        ∙ (λ i. set (same-shown i) place (shown-entry more new key place last-entry i))

    pub popped-shown : all_shown more (set slots place (Some new)) ≡ filled (key, 1) (all_shown entries slots)
    popped-shown = popped-set ∙ filled-set (all_shown entries slots) place (key, 1) (sym least) within_shown

    pub popped-tied : IsTied more (set slots place (Some new))
    popped-tied = puts-tied (set slots place (Some new)) (record {
      here = get_or-set_same slots place (Some new) None popped_within;
      rest = λ other differs. get_or-set_other slots place other (Some new) None differs;
    }) popped_none

    pub popped-free : IsFreeOf rest (all_shown more (set slots place (Some new)))
    popped-free =
        subst (IsFreeOf rest) (ap (λ p. set (all_shown entries slots) p (Some (key, 1))) first_is ∙ sym popped-set)
        (IsFreeOf-popped (all_shown entries slots) free rest first (key, 1) is perm (pops is.heap).0)

    pub popped-room : HasRoom (all_shown more (set slots place (Some new))) capacity
    popped-room =
        let long = ap length popped-set ∙ length-set (all_shown entries slots) place (Some (key, 1)) in
        let covered = room.covered in
        let fits = room.fits in
        record { covered = omega (arith, long, covered); fits = omega (arith, long, fits) }

  -- or a new one
  module _ (free : List (Reverse ℕ)) (capacity : ℕ) (is : IsFreeOf free (all_shown entries slots)) (least : place ≡ free_place (all_shown entries slots)) (none : length free ≡ 0) (covered : length slots < capacity) (fits : place + 1 < 2 ^ 32) where
    nothing : free ≡ []
    nothing = by free none
      where
        by : (list : List (Reverse ℕ)) → length list ≡ 0 → list ≡ []
        by [] empty = refl
        by (x ∷ xs) empty = absurd (omega (arith, empty))

    at_end : free_place (all_shown entries slots) ≡ length (all_shown entries slots)
    at_end = least_at_end (all_shown entries slots) free is (λ some. omega (arith, none, some))

    pub grown_is : place ≡ length slots
    grown_is = least ∙ at_end ∙ length-map slots (shown entries)

    grown-push : all_shown more (slots ++ Some new ∷ []) ≡ all_shown entries slots ++ Some (key, 1) ∷ []
    grown-push =
        map-append (shown more) slots (Some new ∷ [])
        ∙ (λ i. same-shown i ++ shown-entry more new key place last-entry i ∷ [])

    pub grown-shown : all_shown more (slots ++ Some new ∷ []) ≡ filled (key, 1) (all_shown entries slots)
    grown-shown = grown-push ∙ filled-end (all_shown entries slots) (key, 1) at_end

    pub grown-tied : IsTied more (slots ++ Some new ∷ [])
    grown-tied = puts-tied (slots ++ Some new ∷ []) (record {
      here = ap (λ p. get_or (slots ++ Some new ∷ []) p None) grown_is ∙ get_or-append_seam slots (Some new) [] None;
      rest = λ other differs. elim (cases_lt other (length slots)) [
        | inl within ↦ get_or_append_left slots (Some new ∷ []) None other within
        | inr past ↦
            get_or_past (slots ++ Some new ∷ []) other None (omega (arith, past, differs, grown_is, length_push slots (Some new)))
            ∙ sym (get_or_past slots other None past)
      ];
    }) (get_or_past slots place None (omega (arith, grown_is)))

    pub grown-free : IsFreeOf free (all_shown more (slots ++ Some new ∷ []))
    grown-free =
        subst (λ list. IsFreeOf list (all_shown more (slots ++ Some new ∷ []))) (sym nothing)
        (subst (IsFreeOf []) (sym grown-push) (IsFreeOf-grown (all_shown entries slots) (key, 1) (subst (λ list. IsFreeOf list (all_shown entries slots)) nothing is)))

    pub grown-room : HasRoom (all_shown more (slots ++ Some new ∷ [])) capacity
    grown-room =
        let long = ap length grown-push ∙ length_push (all_shown entries slots) (Some (key, 1)) in
        let same = length-map slots (shown entries) in
        record { covered = omega (arith, long, same, covered); fits = omega (arith, long, same, fits, grown_is) }
