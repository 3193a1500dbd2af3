-- How the filing fits the places. No public clause cites this module.
use Rattle.std.specs.Prelude.{ℕ, ◌≡◌, ◌==◌, ◌&&◌, Bool, false, List}
use Rattle.std.specs.Option.{option_map_or}
use Rattle.pol_headings.specs.declared.heading.Heading.{Heading}
use Rattle.pol_headings.specs.Filed.{Drawers, is_filed}
use Rattle.pol_labels.specs.declared.label.Label.{Label}
use Rattle.pol_interner.specs.Slots.{Slot, slot_at}
use Rattle.pol_label_sets.specs.Carried.{carries_heading}

-- the slot has a set with a label of the heading
abbrev pub slot_carries : Heading → Slot (List Label) → Bool
slot_carries heading slot = option_map_or (λ own. carries_heading heading own.0) slot false

-- a place is filed under a heading exactly where its set has a label of the heading
abbrev pub IsFiledAs : Drawers → List (Slot (List Label)) → Type 0
IsFiledAs filing slots = (heading : Heading) (place : ℕ) → is_filed filing heading place ≡ slot_carries heading (slot_at slots place)

-- the place is this one, and one of the labels has the heading
abbrev pub is_of : List Label → ℕ → Heading → ℕ → Bool
is_of labels place heading other = carries_heading heading labels && (place == other)

-- nothing else is filed than before, but perhaps the place under headings of the labels
abbrev pub IsFiledApart : List Label → ℕ → Drawers → Drawers → Type 0
IsFiledApart labels place old new = (heading : Heading) (other : ℕ) → is_of labels place heading other ≡ false → is_filed new heading other ≡ is_filed old heading other
