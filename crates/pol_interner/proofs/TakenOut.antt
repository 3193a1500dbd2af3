-- What the parts of `Interner` show, and how they stay tied, where a key is taken out.
use Rattle.std.proofs.Common.{◌≡◌, ◌≢◌, ℕ, ◌-◌, ◌<◌, ◌≤◌, cond, List, ◌∷◌, length, get_or, set, slice_get, Option, None, Some, IfSome, option_map, refl, sym, ap, subst, ◌∙◌, inl, inr, arith, eqb, min}
use Rattle.std.proofs.lemmas.Bool.{cases_lt, eq-eqb, ne_eqb}
use Rattle.std.proofs.lemmas.Bool.Decides.{eqb_tells}
use Rattle.std.proofs.lemmas.List.{get_or-set_same, get_or-set_other, get_or-take, length-map, length-set, length-take, ext_get_or}
use Rattle.std.proofs.lemmas.Option.{same_Some, slice_get-get_or, slice_get_within}
use Rattle.pol_interner.specs.declared.interner.Held.{Held}
use Rattle.std.specs.List.{swap_remove}
use Rattle.std.specs.BinaryHeap.{KeepsHeap}
use Rattle.std.specs.List.Sorted.{IsPermutation}
use Rattle.std.specs.declared.cmp.Reverse.{Reverse}
use Rattle.pol_interner.specs.Slots.{Slot, changed, slot_at}
use Rattle.pol_interner.proofs.FreePlaces.{taken_within, IsFreeOf-pushed}
use Rattle.pol_interner.proofs.Shown.{changed-set, same-room, shown-entry, slot_at-shown, wider-room}
use Rattle.pol_interner.specs.Tied.{all_shown, least_first, shown, with_index, IsIndexOf, HasRoom, IsFreeOf, IsTied}

-- An entry is taken out, and the last one takes its index.
module _ {K : Type 0} (entries : List (K × ℕ)) (index : ℕ) (gone : K × ℕ) where
  abbrev left : List (K × ℕ)
  left = swap_remove entries index gone

  -- where an entry is then
  abbrev pub moved : ℕ → ℕ
  moved from = cond (eqb from (length entries - 1)) index from

  abbrev pub moved_slot : Option Held → Option Held
  moved_slot None = None
  moved_slot (Some held) = Some (record held { index = moved held.index })

  left-length : length left ≡ length entries - 1
  left-length =
      length-take (length entries - 1) (set entries index (get_or entries (length entries - 1) gone))
      ∙ ap (λ n. min (length entries - 1) n) (length-set entries index (get_or entries (length entries - 1) gone)) ∙ omega arith

  left-at : (i : ℕ) → i < length entries - 1 → slice_get left i ≡ Some (get_or (set entries index (get_or entries (length entries - 1) gone)) i gone)
  left-at i within =
      slice_get-get_or left i gone (omega (arith, within, left-length))
      ∙ ap Some (get_or-take (length entries - 1) (set entries index (get_or entries (length entries - 1) gone)) i gone within)

  left-same : (i : ℕ) → i < length entries - 1 → i ≢ index → slice_get left i ≡ slice_get entries i
  left-same i within other =
      left-at i within ∙ ap Some (get_or-set_other entries index i (get_or entries (length entries - 1) gone) gone other)
      ∙ sym (slice_get-get_or entries i gone (omega (arith, within)))

  left-here : index < length entries - 1 → slice_get left index ≡ slice_get entries (length entries - 1)
  left-here within =
      left-at index within ∙ ap Some (get_or-set_same entries index (get_or entries (length entries - 1) gone) gone (omega (arith, within)))
      ∙ sym (slice_get-get_or entries (length entries - 1) gone (omega (arith, within)))

  -- each other entry is still there
  left-moved : index < length entries → (from : ℕ) → from < length entries → from ≢ index → slice_get left (moved from) ≡ slice_get entries from
  left-moved here from within other =
      elim (eqb_tells from (length entries - 1)) [
        | inl last ↦ ap (λ b. slice_get left (cond b index from)) last.0 ∙ left-here (omega (arith, here, within, other, last.1)) ∙ ap (slice_get entries) (sym last.1)
        | inr before ↦ ap (λ b. slice_get left (cond b index from)) before.0 ∙ left-same from (omega (arith, within, before.1)) other
      ]

  -- and what is there came from there
  left-from : index < length entries → (i : ℕ) (entry : K × ℕ) → slice_get left i ≡ Some entry → (from : ℕ) × (from ≢ index) × (moved from ≡ i) × (slice_get entries from ≡ Some entry)
  left-from here i entry at =
      let within : i < length entries - 1 = omega (arith, slice_get_within left i entry at, left-length) in
      elim (eqb_tells i index) [
        | inl same ↦
            let less : index < length entries - 1 = omega (arith, within, same.1) in
            (length entries - 1, λ e. omega (arith, less, e), ap (λ b. cond b index (length entries - 1)) (eq-eqb (length entries - 1) (length entries - 1) refl) ∙ sym same.1, sym (left-here less) ∙ ap (slice_get left) (sym same.1) ∙ at)
        | inr other ↦
            (i, other.1, ap (λ b. cond b index i) (ne_eqb i (length entries - 1) (λ e. omega (arith, within, e))), sym (left-same i within other.1) ∙ at)
      ]

  -- The slots without the place of that entry, where each other one follows its entry.
  pub record TakesOut (slots others : List (Option Held)) (place : ℕ) : Type 0 where
    pub long : length others ≡ length slots
    pub here : get_or others place None ≡ None
    pub rest : (other : ℕ) → other ≢ place → get_or others other None ≡ moved_slot (get_or slots other None)

  module _ (slots : List (Option Held)) (place : ℕ) (held : Held) (tied : IsTied entries slots) (taken : get_or slots place None ≡ Some held) (its : held.index ≡ index) where
    within : index < length entries
    within = let entry = tied.entry place held taken in subst (λ i. i < length entries) its (slice_get_within entries held.index (entry.0, place) entry.1)

    -- no other place has the index
    apart : (other : ℕ) (h : Held) → other ≢ place → get_or slots other None ≡ Some h → h.index ≢ index
    apart other h differs at same =
        let one = tied.entry place held taken in
        let two = tied.entry other h at in
        let pairs = same_Some (one.0, place) (two.0, other) (sym one.1 ∙ ap (slice_get entries) (its ∙ sym same) ∙ two.1) in
        differs (sym (ap (λ pair. pair.1) pairs))

    follows : (other : ℕ) (h : Held) → other ≢ place → get_or slots other None ≡ Some h → slice_get left (moved h.index) ≡ slice_get entries h.index
    follows other h differs at =
        let entry = tied.entry other h at in
        left-moved within h.index (slice_get_within entries h.index (entry.0, other) entry.1) (apart other h differs at)

    pub out-tied : (others : List (Option Held)) → TakesOut slots others place → IsTied left others
    out-tied others out = record {
      entry = λ other h at. elim (eqb_tells other place) [
        | inl same ↦ absurd (some_is_none (sym at ∙ ap (λ p. get_or others p None) same.1 ∙ out.here))
        | inr differs ↦ was other h differs.1 (get_or slots other None) refl (sym (out.rest other differs.1) ∙ at)
      ];
      slot = λ i key other at.
          let from = left-from within i (key, other) at in
          let slot = tied.slot from.0 key other from.3 in
          let differs : other ≢ place = λ same.
          from.1 (sym slot.2 ∙ ap (λ h. h.index) (same_Some slot.0 held (sym slot.1 ∙ ap (λ p. get_or slots p None) same ∙ taken)) ∙ its) in
          (record slot.0 { index = moved slot.0.index }, out.rest other differs ∙ ap moved_slot slot.1, ap moved slot.2 ∙ from.2);
    }
      where
        some_is_none : {h : Held} → Some h ≡ None → ⊥
        some_is_none e = cc

        was : (other : ℕ) (h : Held) → other ≢ place → (slot : Option Held) → get_or slots other None ≡ slot → moved_slot slot ≡ Some h → (key : K) × (slice_get left h.index ≡ Some (key, other))
        was other h differs None at is = absurd cc
        was other h differs (Some old) at is =
            let entry = tied.entry other old at in
            (entry.0, ap (λ x. slice_get left x.index) (sym (same_Some (record old { index = moved old.index }) h is)) ∙ follows other old differs at ∙ entry.1)

    pub out-shown : (others : List (Option Held)) → TakesOut slots others place → all_shown left others ≡ set (all_shown entries slots) place None
    out-shown others out =
        ext_get_or None (all_shown left others) (set (all_shown entries slots) place None)
        (length-map others (shown left) ∙ out.long ∙ sym (length-map slots (shown entries)) ∙ sym (length-set (all_shown entries slots) place None))
        (λ other less. slot_at-shown left others other ∙ elim (eqb_tells other place) [
          | inl same ↦
              ap (λ p. shown left (get_or others p None)) same.1 ∙ ap (shown left) out.here
              ∙ sym (ap (λ p. get_or (set (all_shown entries slots) place None) p None) same.1 ∙ get_or-set_same (all_shown entries slots) place None None (omega (arith, taken_within slots place held taken, length-map slots (shown entries))))
          | inr differs ↦
              ap (shown left) (out.rest other differs.1) ∙ same_shown other differs.1 (get_or slots other None) refl
              ∙ sym (slot_at-shown entries slots other) ∙ sym (get_or-set_other (all_shown entries slots) place other None None differs.1)
        ])
      where
        same_shown : (other : ℕ) → other ≢ place → (slot : Option Held) → get_or slots other None ≡ slot → shown left (moved_slot slot) ≡ shown entries slot
        same_shown other differs None at = refl
        same_shown other differs (Some h) at = ap (option_map (λ entry. (entry.0, h.holders))) (follows other h differs at)

    -- a slot whose entry isn't the last one's stays
    stays : (slot : Option Held) → ((h : Held) → slot ≡ Some h → h.index ≢ length entries - 1) → slot ≡ moved_slot slot
    stays None other = refl
    stays (Some h) other =
        let same : h.index ≡ moved h.index = sym (ap (λ b. cond b index h.index) (ne_eqb h.index (length entries - 1) (other h refl))) in
        λ i. Some (record { index = same i; holders = h.holders })

    -- where the entry was the last, nothing else changes
    pub out-last : length left ≤ index → TakesOut slots (set slots place None) place
    out-last last = record {
      long = length-set slots place None;
      here = get_or-set_same slots place None None (taken_within slots place held taken);
      rest = λ other differs.
          get_or-set_other slots place other None None differs
          ∙ stays (get_or slots other None) (λ h at e. apart other h differs at (omega (arith, e, last, left-length, within)));
    }

    -- else the last entry's place gets its index
    module _ (key : K) (other : ℕ) (at : slice_get left index ≡ Some (key, other)) where
      before : index < length entries - 1
      before = omega (arith, slice_get_within left index (key, other) at, left-length)

      from_last : slice_get entries (length entries - 1) ≡ Some (key, other)
      from_last = sym (left-here before) ∙ at

      slot : (h : Held) × (get_or slots other None ≡ Some h) × (h.index ≡ length entries - 1)
      slot = tied.slot (length entries - 1) key other from_last

      not_place : other ≢ place
      not_place same =
          let is = same_Some slot.0 held (sym slot.1 ∙ ap (λ p. get_or slots p None) same ∙ taken) in
          let index_is = ap (λ h. h.index) is in
          omega (arith, before, slot.2, index_is, its)

      pub relinked_within : other < length (set slots place None)
      relinked_within = omega (arith, taken_within slots other slot.0 slot.1, length-set slots place None)

      abbrev relinked : List (Option Held)
      relinked = set (set slots place None) other (with_index index (get_or (set slots place None) other None))

      pub out-relinked : TakesOut slots relinked place
      out-relinked = record {
        long = length-set (set slots place None) other _ ∙ length-set slots place None;
        here =
            get_or-set_other (set slots place None) other place _ None (λ e. not_place (sym e))
            ∙ get_or-set_same slots place None None (taken_within slots place held taken);
        rest = λ place_too differs. elim (eqb_tells place_too other) [
          | inl same ↦
              ap (λ p. get_or relinked p None) same.1
              ∙ get_or-set_same (set slots place None) other _ None relinked_within
              ∙ ap (with_index index) (get_or-set_other slots place other None None not_place ∙ slot.1)
              ∙ sym (ap (λ p. moved_slot (get_or slots p None)) same.1 ∙ ap moved_slot slot.1 ∙ ap (λ i. Some (record slot.0 { index = i })) (ap moved slot.2 ∙ ap (λ b. cond b index (length entries - 1)) (eq-eqb (length entries - 1) (length entries - 1) refl)))
          | inr apart_too ↦
              get_or-set_other (set slots place None) other place_too _ None apart_too.1
              ∙ get_or-set_other slots place place_too None None differs
              ∙ stays (get_or slots place_too None) (λ h there e.
              let entry = tied.entry place_too h there in
              apart_too.1 (ap (λ pair. pair.1) (same_Some (entry.0, place_too) (key, other) (sym entry.1 ∙ ap (slice_get entries) e ∙ from_last))))
        ];
      }

-- What is left, in the words of the calls that take an entry out.
module _ {K : Type 0} (entries others : List (K × ℕ)) (slots : List (Option Held)) (place index : ℕ) (tied : IsTied entries slots) (taken : IsIndexOf index (get_or slots place None)) (result : Option (K × ℕ)) (is : result ≡ slice_get entries index) (out : IfSome result (λ gone. others ≡ swap_remove entries index gone)) where
  pub record IsOut (now : List (Option Held)) : Type 0 where
    pub ties : IsTied others now
    pub shows : all_shown others now ≡ set (all_shown entries slots) place None

  record Gone : Type 0 where
    held : Held
    there : get_or slots place None ≡ Some held
    its : held.index ≡ index
    entry : K × ℕ
    left_are : others ≡ left entries index entry

  gone : Gone
  gone = by (get_or slots place None) refl taken
    where
      by : (slot : Option Held) → get_or slots place None ≡ slot → IsIndexOf index slot → Gone
      by None there its = absurd its
      by (Some held) there its =
          let entry = tied.entry place held there in
          record {
            held = held;
            there = there;
            its = its;
            entry = (entry.0, place);
            left_are = subst (λ o. IfSome o (λ gone. others ≡ swap_remove entries index gone)) (is ∙ ap (slice_get entries) (sym its) ∙ entry.1) out;
          }

  is_out : (now : List (Option Held)) → TakesOut entries index gone.entry slots now place → IsOut now
  is_out now takes = record {
    ties = subst (λ es. IsTied es now) (sym gone.left_are) (out-tied entries index gone.entry slots place gone.held tied gone.there gone.its now takes);
    shows = ap (λ es. all_shown es now) gone.left_are ∙ out-shown entries index gone.entry slots place gone.held tied gone.there gone.its now takes;
  }

  pub out-none : None ≡ slice_get others index → IsOut (set slots place None)
  out-none none =
      is_out (set slots place None) (out-last entries index gone.entry slots place gone.held tied gone.there gone.its (past (left entries index gone.entry) (none ∙ ap (λ es. slice_get es index) gone.left_are)))
    where
      past : (es : List (K × ℕ)) → None ≡ slice_get es index → length es ≤ index
      past es none = elim (cases_lt index (length es)) [ inl within ↦ absurd (none_is_some (none ∙ slice_get-get_or es index gone.entry within)) | inr beyond ↦ beyond ]
        where
          none_is_some : {e : K × ℕ} → None ≡ Some e → ⊥
          none_is_some e = cc

  module _ (key : K) (other : ℕ) (at : Some (key, other) ≡ slice_get others index) where
    moved_at : slice_get (left entries index gone.entry) index ≡ Some (key, other)
    moved_at = sym (at ∙ ap (λ es. slice_get es index) gone.left_are)

    pub out-within : other < length (set slots place None)
    out-within = relinked_within entries index gone.entry slots place gone.held tied gone.there gone.its key other moved_at

    pub out-some : IsOut (set (set slots place None) other (with_index index (get_or (set slots place None) other None)))
    out-some = is_out _ (out-relinked entries index gone.entry slots place gone.held tied gone.there gone.its key other moved_at)

-- The place is free then, and its slot shows nothing.
module _ {K : Type 0} (entries : List (K × ℕ)) (slots : List (Option Held)) (place : ℕ) (held : Held) (tied : IsTied entries slots) (taken : get_or slots place None ≡ Some held) where
  own : (key : K) × (slot_at (all_shown entries slots) place ≡ Some (key, held.holders))
  own =
      let entry = tied.entry place held taken in
      (entry.0, slot_at-shown entries slots place ∙ ap (shown entries) taken ∙ shown-entry entries held entry.0 place entry.1)

  pub gone-changed : (change : Slot K → Slot K) → ((key : K) → change (Some (key, held.holders)) ≡ None) → set (all_shown entries slots) place None ≡ changed change place (all_shown entries slots)
  gone-changed change goes =
      ap (set (all_shown entries slots) place) (sym (ap change own.1 ∙ goes own.0))
      ∙ changed-set change (all_shown entries slots) place (omega (arith, taken_within slots place held taken, length-map slots (shown entries)))

  pub given-back : (others : List (K × ℕ)) (now : List (Option Held)) (free more : List (Reverse ℕ)) (capacity room : ℕ)
      → IsFreeOf free (all_shown entries slots) × HasRoom (all_shown entries slots) capacity → all_shown others now ≡ set (all_shown entries slots) place None
      → IsPermutation (record { 0 = place } ∷ free) more → KeepsHeap least_first free more → capacity ≤ room
      → IsFreeOf more (all_shown others now) × HasRoom (all_shown others now) room
  given-back others now free more capacity room is seen perm keeps wide = (
    subst (IsFreeOf more) (sym seen) (IsFreeOf-pushed (all_shown entries slots) free more (record { 0 = place }) (own.0, held.holders) is.0 own.1 perm (keeps is.0.heap)),
    wider-room (all_shown others now) capacity room (same-room (all_shown entries slots) (all_shown others now) capacity (ap length seen ∙ length-set (all_shown entries slots) place None) is.1) wide,
  )
