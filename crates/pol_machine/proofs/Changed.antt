-- Rows of which one has changed, and what a slot has taken.
use Rattle.std.proofs.Common.{◌≡◌, ◌≢◌, ℕ, ◌==◌, ◌<◌, ◌≤◌, inl, inr, Bool, true, false, cond, List, Option, None, Some, nat_le, option_map, refl, sym, ap, ◌∙◌, arith, bytes_eq}
use Rattle.std.specs.Cmp.Lexicographic.{bytes_decides}
use Rattle.std.proofs.lemmas.Bool.{eqb-true}
use Rattle.std.proofs.lemmas.Bool.Decides.{eqb_tells, nat_tests}
use Rattle.pol_history.specs.Content.{BoardRow, if_of, with_change}
use Rattle.pol_taken.specs.declared.taken.Taken.{Taken}
use Rattle.pol_machine.specs.Parts.{TakesOf, with_slot}
use Rattle.pol_machine.specs.Rows.{RowsOf, live_held, row_held, with_one}
use Rattle.pol_machine.specs.Stands.{over_limit}
use Rattle.pol_machine.specs.declared.row.MachineRow.{MachineRow}
use Rattle.pol_machine.proofs.Choices.{if_mapped}

-- ---- tests of numbers and names

pub differs_itself : (n m : List ℕ) → n ≡ m → bytes_eq m n ≡ false → ⊥
differs_itself n m same differ = let is : bytes_eq m n ≡ true = (bytes_decides m n).1 (sym same) in cc

pub not_equal : (a b : ℕ) → a ≢ b → (a == b) ≡ false
not_equal a b differ = elim (eqb_tells a b) [ inl same ↦ absurd (differ same.1) | inr other ↦ other.0 ]

pub equal : (a b : ℕ) → a ≡ b → (a == b) ≡ true
equal a b same = grind (arith, nat_tests, same)

pub fits_true : (count many limit : ℕ) → many ≡ count → many ≤ limit → nat_le count limit ≡ true
fits_true count many limit same fits = grind (arith, nat_tests, same, fits)

pub fits_false : (count many limit : ℕ) → many ≡ count → limit < many → nat_le count limit ≡ false
fits_false count many limit same over = grind (arith, nat_tests, same, over)

-- a size is told where it is above the limit
pub none_over : (limit count many : ℕ) {size : Option ℕ} → many ≡ count → size ≡ Some count → many ≤ limit → None ≡ over_limit (Some limit) size
none_over limit count many same is fits =
    sym (ap (over_limit (Some limit)) is ∙ ap (λ (b : Bool). cond b None (Some count)) (fits_true count many limit same fits))

pub count_over : (limit count many : ℕ) {size : Option ℕ} → many ≡ count → size ≡ Some count → limit < many → Some many ≡ over_limit (Some limit) size
count_over limit count many same is over =
    ap (λ (n : ℕ). Some n) same
    ∙ sym (ap (over_limit (Some limit)) is ∙ ap (λ (b : Bool). cond b None (Some count)) (fits_false count many limit same over))

-- ---- rows of which one has changed

module _ (rows : RowsOf) (name : List ℕ) (row now : MachineRow) (there : rows name ≡ Some row) where
  -- it is one of the same content
  held_step : (test : Bool) (n : List ℕ) → bytes_eq name n ≡ test → row_held now ≡ row_held row
      → cond test (Some (row_held now)) (live_held rows n) ≡ live_held rows n
  held_step true n is same =
      let one : name ≡ n = (bytes_decides name n).0 is in
      ap (λ (r : BoardRow). Some r) same ∙ sym (ap (option_map row_held) (ap rows (sym one) ∙ there))
  held_step false n is same = refl

  pub held_same : row_held now ≡ row_held row → (n : List ℕ) → live_held (with_one name (Some now) rows) n ≡ live_held rows n
  held_same same n = if_mapped row_held (bytes_eq name n) (Some now) (rows n) ∙ held_step (bytes_eq name n) n refl same

  -- or of one that an event changes
  change_step : (added : ℕ) (change : BoardRow → BoardRow) (test : Bool) (n : List ℕ) → bytes_eq name n ≡ test → row.added ≡ added → row_held now ≡ change (row_held row)
      → cond test (Some (row_held now)) (live_held rows n) ≡ cond test (if_of added change (live_held rows n)) (live_held rows n)
  change_step added change true n is own changes =
      let one : name ≡ n = (bytes_decides name n).0 is in
      let here : live_held rows n ≡ Some (row_held row) = ap (option_map row_held) (ap rows (sym one) ∙ there) in
      ap (λ (r : BoardRow). Some r) changes
      ∙ ap (λ (b : Bool). cond b (Some (change (row_held row))) (Some (row_held row))) (sym (equal row.added added own))
      ∙ ap (if_of added change) (sym here)
  change_step added change false n is own changes = refl

  pub held_changed : (added : ℕ) (change : BoardRow → BoardRow) → row.added ≡ added → row_held now ≡ change (row_held row) → (n : List ℕ)
      → live_held (with_one name (Some now) rows) n ≡ with_change (record { name = name; added = added }) change (live_held rows) n
  held_changed added change own changes n =
      if_mapped row_held (bytes_eq name n) (Some now) (rows n) ∙ change_step added change (bytes_eq name n) n refl own changes

  -- it is the same
  same_step : (test : Bool) (n : List ℕ) → bytes_eq name n ≡ test → cond test (Some row) (rows n) ≡ rows n
  same_step true n is = sym there ∙ ap rows ((bytes_decides name n).0 is)
  same_step false n is = refl

  pub with_same : (n : List ℕ) → with_one name (Some row) rows n ≡ rows n
  with_same n = same_step (bytes_eq name n) n refl

slot_step : (takes : TakesOf) (slot : ℕ) (now : Option Taken) (test : Bool) (other : ℕ) → takes slot ≡ now → (other == slot) ≡ test → cond test now (takes other) ≡ takes other
slot_step takes slot now true other there is = sym there ∙ ap takes (sym (eqb-true other slot is))
slot_step takes slot now false other there is = refl

pub slot_same : (takes : TakesOf) (slot : ℕ) (now : Option Taken) → takes slot ≡ now → with_slot slot now takes ≡ takes
slot_same takes slot now there = λ i. λ other. slot_step takes slot now (other == slot) other there refl i
