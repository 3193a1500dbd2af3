-- What the parts of `Interner` show, and how they stay tied, as keys come and go.
use Rattle.std.proofs.Common.{zero, suc, ◌≡◌, ℕ, ◌+◌, ◌<◌, ◌≤◌, Bool, false, List, [], ◌∷◌, ◌++◌, length, get_or, set, slice_get, Option, None, Some, option_map, refl, sym, ap, subst, ◌∙◌, inl, inr, arith}
use Rattle.std.proofs.lemmas.Bool.Decides.{eqb_tells}
use Rattle.std.proofs.lemmas.List.{get_or-set_same, get_or-set_other, length-map, length-set, map-set}
use Rattle.std.proofs.lemmas.Map.{lookup-none, none_passes_from_lookup, NonePasses}
use Rattle.std.proofs.lemmas.Option.{same_Some}
use Rattle.pol_interner.specs.declared.interner.Held.{Held}
use Rattle.std.proofs.lemmas.Map.Made.{lookup_key_passes}
use Rattle.std.specs.Map.{lookup, lookup_key}
use Rattle.std.specs.declared.cmp.Reverse.{Reverse}
use Rattle.pol_interner.specs.Slots.{HasNone, HasPlace, Slot, changed, filled, free_place, numbers_from, slot_at}
use Rattle.pol_interner.proofs.FreePlaces.{taken_within, IsFreeOf-kept}
use Rattle.pol_interner.specs.Tied.{all_shown, shown, HasRoom, IsFreeOf, IsTied}

pub wider-room : {X : Type 0} (slots : List (Option X)) (one other : ℕ) → HasRoom slots one → one ≤ other → HasRoom slots other
wider-room slots one other room more =
    let covered = room.covered in
    record { covered = omega (arith, covered, more); fits = room.fits }

module _ {K : Type 0} where
  -- a value in the first place that has none
  pub filled-set : (slots : List (Slot K)) (place : ℕ) (new : K × ℕ) → free_place slots ≡ place → place < length slots → set slots place (Some new) ≡ filled new slots
  filled-set [] place new is within = absurd (omega (arith, within))
  filled-set (None ∷ slots) zero new is within = refl
  filled-set (None ∷ slots) (suc place) new is within = absurd (omega (arith, is))
  filled-set (Some own ∷ slots) zero new is within = absurd (omega (arith, is))
  filled-set (Some own ∷ slots) (suc place) new is within =
      ap (λ rest. Some own ∷ rest) (filled-set slots place new (omega (arith, is)) (omega (arith, within)))

  pub filled-end : (slots : List (Slot K)) (new : K × ℕ) → free_place slots ≡ length slots → slots ++ Some new ∷ [] ≡ filled new slots
  filled-end [] new is = refl
  filled-end (None ∷ slots) new is = absurd (omega (arith, is))
  filled-end (Some own ∷ slots) new is = ap (λ rest. Some own ∷ rest) (filled-end slots new (omega (arith, is)))

  pub changed-set : (change : Slot K → Slot K) (slots : List (Slot K)) (place : ℕ) → place < length slots → set slots place (change (slot_at slots place)) ≡ changed change place slots
  changed-set change [] place within = absurd (omega (arith, within))
  changed-set change (slot ∷ slots) zero within = refl
  changed-set change (slot ∷ slots) (suc place) within = ap (λ rest. slot ∷ rest) (changed-set change slots place (omega (arith, within)))

  -- the slot of a place is shown
  pub slot_at-shown : (entries : List (K × ℕ)) (slots : List (Option Held)) (place : ℕ) → slot_at (all_shown entries slots) place ≡ shown entries (get_or slots place None)
  slot_at-shown entries [] place = refl
  slot_at-shown entries (slot ∷ slots) zero = refl
  slot_at-shown entries (slot ∷ slots) (suc place) = slot_at-shown entries slots place

  pub shown-entry : (entries : List (K × ℕ)) (held : Held) (key : K) (place : ℕ) → slice_get entries held.index ≡ Some (key, place) → shown entries (Some held) ≡ Some (key, held.holders)
  shown-entry entries held key place is = ap (option_map (λ entry. (entry.0, held.holders))) is

  pub get-more : (entries : List (K × ℕ)) (new : K × ℕ) (i : ℕ) → i < length entries → slice_get (entries ++ new ∷ []) i ≡ slice_get entries i
  get-more [] new i within = absurd (omega (arith, within))
  get-more (entry ∷ entries) new zero within = refl
  get-more (entry ∷ entries) new (suc i) within = get-more entries new i (omega (arith, within))

  -- one entry more shows nothing else in the slots that there were
  pub shown-more : (entries : List (K × ℕ)) (new : K × ℕ) (slots : List (Option Held)) → ((place : ℕ) (held : Held) → get_or slots place None ≡ Some held → held.index < length entries) → all_shown (entries ++ new ∷ []) slots ≡ all_shown entries slots
  shown-more entries new [] within = refl
  shown-more entries new (None ∷ slots) within = ap (λ rest. None ∷ rest) (shown-more entries new slots (λ place held is. within (suc place) held is))
  shown-more entries new (Some held ∷ slots) within =
      let here : shown (entries ++ new ∷ []) (Some held) ≡ shown entries (Some held) = ap (option_map (λ entry. (entry.0, held.holders))) (get-more entries new held.index (within 0 held refl)) in
      let rest = shown-more entries new slots (λ place other is. within (suc place) other is) in
      λ i. here i ∷ rest i

  -- a slot that shows a key is taken, and its entry has the key
  pub record Shows (entries : List (K × ℕ)) (slots : List (Option Held)) (place : ℕ) (own : K × ℕ) : Type 0 where
    pub held : Held
    pub taken : get_or slots place None ≡ Some held
    pub entry : slice_get entries held.index ≡ Some (own.0, place)
    pub count : held.holders ≡ own.1

  pub shows : (entries : List (K × ℕ)) (slots : List (Option Held)) (place : ℕ) (own : K × ℕ) → IsTied entries slots → slot_at (all_shown entries slots) place ≡ Some own → Shows entries slots place own
  shows entries slots place own tied is = by (get_or slots place None) refl (sym (slot_at-shown entries slots place) ∙ is)
    where
      by : (slot : Option Held) → get_or slots place None ≡ slot → shown entries slot ≡ Some own → Shows entries slots place own
      by None at seen = absurd cc
      by (Some held) at seen =
          let entry = tied.entry place held at in
          let same : (entry.0, held.holders) ≡ own = same_Some _ _ (sym (shown-entry entries held entry.0 place entry.1) ∙ seen) in
          record { held = held; taken = at; entry = entry.1 ∙ ap (λ pair. Some (pair.0, place)) same; count = ap (λ pair. pair.1) same }

  -- what is found by its key has a place; where nothing is found no place has it
  pub found-place : (eq : K → K → Bool) (entries : List (K × ℕ)) (slots : List (Option Held)) (key own : K) (index place : ℕ) → IsTied entries slots → slice_get entries index ≡ Some (own, place) → Some own ≡ lookup_key (eq key) entries → HasPlace eq key (all_shown entries slots) place
  found-place eq entries slots key own index place tied at found =
      let slot = tied.slot index own place at in
      let entry = ap (slice_get entries) slot.2 ∙ at in
      ((own, slot.0.holders), slot_at-shown entries slots place ∙ ap (shown entries) slot.1 ∙ shown-entry entries slot.0 own place entry, lookup_key_passes (eq key) entries own (sym found))

  none-at : (test : K → Bool) (entries : List (K × ℕ)) (index : ℕ) (entry : K × ℕ) → NonePasses test entries → slice_get entries index ≡ Some entry → test entry.0 ≡ false
  none-at test [] index entry none at = absurd cc
  none-at test (one ∷ entries) zero entry none at = subst (λ e. test e.0 ≡ false) (same_Some one entry at) none.0
  none-at test (one ∷ entries) (suc index) entry none at = none-at test entries index entry none.1 at

  pub none-placed : (eq : K → K → Bool) (entries : List (K × ℕ)) (slots : List (Option Held)) (key : K) → IsTied entries slots → lookup (eq key) entries ≡ None → HasNone eq key (all_shown entries slots)
  none-placed eq entries slots key tied none place own is =
      let there = shows entries slots place own tied is in
      none-at (eq key) entries there.held.index (own.0, place) (none_passes_from_lookup (eq key) entries none) there.entry

  -- so the index has no such key where no place has it
  pub none-found : (eq : K → K → Bool) (entries : List (K × ℕ)) (slots : List (Option Held)) (key : K) → IsTied entries slots → HasNone eq key (all_shown entries slots) → lookup (eq key) entries ≡ None
  none-found eq entries slots key tied none = lookup-none (eq key) entries (passes-none entries (λ index entry at.
      let slot = tied.slot index entry.0 entry.1 at in
      let held = ap (slice_get entries) slot.2 ∙ at in
      none entry.1 (entry.0, slot.0.holders) (slot_at-shown entries slots entry.1 ∙ ap (shown entries) slot.1 ∙ shown-entry entries slot.0 entry.0 entry.1 held)))
    where
      passes-none : (es : List (K × ℕ)) → ((index : ℕ) (entry : K × ℕ) → slice_get es index ≡ Some entry → eq key entry.0 ≡ false) → NonePasses (eq key) es
      passes-none [] each = tt
      passes-none (one ∷ es) each = (each 0 one refl, passes-none es (λ index entry at. each (suc index) entry at))

  pub same-room : (slots others : List (Slot K)) (capacity : ℕ) → length others ≡ length slots → HasRoom slots capacity → HasRoom others capacity
  same-room slots others capacity same room =
      let covered = room.covered in
      let fits = room.fits in
      record { covered = omega arith; fits = omega arith }

  -- what a hold changes
  pub held-shown : (entries : List (K × ℕ)) (slots : List (Option Held)) (place : ℕ) (held other : Held) → get_or slots place None ≡ Some held → other.index ≡ held.index → (key : K) → slice_get entries held.index ≡ Some (key, place)
      → all_shown entries (set slots place (Some other)) ≡ set (all_shown entries slots) place (Some (key, other.holders))
  held-shown entries slots place held other taken same key entry =
      map-set (shown entries) slots place (Some other) ∙ ap (set (all_shown entries slots) place) (shown-entry entries other key place (ap (slice_get entries) same ∙ entry))

  pub held-tied : (entries : List (K × ℕ)) (slots : List (Option Held)) (place : ℕ) (held other : Held) → IsTied entries slots → get_or slots place None ≡ Some held → other.index ≡ held.index → IsTied entries (set slots place (Some other))
  held-tied entries slots place held other tied taken same =
      let within = taken_within slots place held taken in
      record {
        entry = λ p h at. elim (eqb_tells p place) [
          | inl here ↦
              let is = same_Some other h (sym (get_or-set_same slots place (Some other) None within) ∙ ap (λ q. get_or (set slots place (Some other)) q None) (sym here.1) ∙ at) in
              let own = tied.entry place held taken in
              (own.0, ap (λ x. slice_get entries x.index) (sym is) ∙ ap (slice_get entries) same ∙ own.1 ∙ ap (λ q. Some (own.0, q)) (sym here.1))
          | inr there ↦ tied.entry p h (sym (get_or-set_other slots place p (Some other) None there.1) ∙ at)
        ];
        slot = λ index key p at.
            let old = tied.slot index key p at in
            elim (eqb_tells p place) [
              | inl here ↦
                  let is = same_Some held old.0 (sym taken ∙ ap (λ q. get_or slots q None) (sym here.1) ∙ old.1) in
                  (other, ap (λ q. get_or (set slots place (Some other)) q None) here.1 ∙ get_or-set_same slots place (Some other) None within, same ∙ ap (λ x. x.index) is ∙ old.2)
              | inr there ↦ (old.0, get_or-set_other slots place p (Some other) None there.1 ∙ old.1, old.2)
            ];
      }

  -- so a new count of a taken place changes its slot alone
  pub changed-shown : (change : Slot K → Slot K) (entries : List (K × ℕ)) (slots : List (Option Held)) (place : ℕ) (held other : Held) → IsTied entries slots → get_or slots place None ≡ Some held → other.index ≡ held.index
      → ((key : K) → change (Some (key, held.holders)) ≡ Some (key, other.holders)) → all_shown entries (set slots place (Some other)) ≡ changed change place (all_shown entries slots)
  changed-shown change entries slots place held other tied taken same changes =
      let entry = tied.entry place held taken in
      let own : slot_at (all_shown entries slots) place ≡ Some (entry.0, held.holders) = slot_at-shown entries slots place ∙ ap (shown entries) taken ∙ shown-entry entries held entry.0 place entry.1 in
      let within = taken_within slots place held taken in
      held-shown entries slots place held other taken same entry.0 entry.1
      ∙ ap (set (all_shown entries slots) place) (sym (ap change own ∙ changes entry.0))
      ∙ changed-set change (all_shown entries slots) place (omega (arith, within, length-map slots (shown entries)))

  -- and leaves the free places
  pub kept-places : (entries : List (K × ℕ)) (slots : List (Option Held)) (free : List (Reverse ℕ)) (capacity place : ℕ) (held other : Held)
      → IsTied entries slots × IsFreeOf free (all_shown entries slots) × HasRoom (all_shown entries slots) capacity → get_or slots place None ≡ Some held → other.index ≡ held.index
      → IsTied entries (set slots place (Some other)) × IsFreeOf free (all_shown entries (set slots place (Some other))) × HasRoom (all_shown entries (set slots place (Some other))) capacity
  kept-places entries slots free capacity place held other is taken same =
      let entry = is.0.entry place held taken in
      let seen = held-shown entries slots place held other taken same entry.0 entry.1 in
      let own = slot_at-shown entries slots place ∙ ap (shown entries) taken ∙ shown-entry entries held entry.0 place entry.1 in (
        held-tied entries slots place held other is.0 taken same,
        subst (IsFreeOf free) (sym seen) (IsFreeOf-kept (all_shown entries slots) free place (entry.0, held.holders) (entry.0, other.holders) is.1 own),
        same-room (all_shown entries slots) _ capacity (ap length seen ∙ length-set (all_shown entries slots) place (Some (entry.0, other.holders))) is.2,
      )

-- the numbers of shown slots are those of the slots
pub numbers-shown : {K : Type 0} (entries : List (K × ℕ)) (first : ℕ) (slots : List (Option Held)) → ((place : ℕ) (held : Held) → get_or slots place None ≡ Some held → (own : K × ℕ) × (shown entries (Some held) ≡ Some own)) → numbers_from first (all_shown entries slots) ≡ numbers_from first slots
numbers-shown entries first [] each = refl
numbers-shown entries first (None ∷ slots) each = numbers-shown entries (first + 1) slots (λ place held at. each (suc place) held at)
numbers-shown entries first (Some held ∷ slots) each =
    let own = each 0 held refl in
    ap (λ slot. numbers_from first (slot ∷ all_shown entries slots)) own.1
    ∙ ap (λ others. first ∷ others) (numbers-shown entries (first + 1) slots (λ place other at. each (suc place) other at))

pub numbers-tied : {K : Type 0} (entries : List (K × ℕ)) (first : ℕ) (slots : List (Option Held)) → IsTied entries slots → numbers_from first (all_shown entries slots) ≡ numbers_from first slots
numbers-tied entries first slots tied =
    numbers-shown entries first slots (λ place held at. let entry = tied.entry place held at in ((entry.0, held.holders), shown-entry entries held entry.0 place entry.1))
