-- The order of labels in a set, and which list is the set of some labels.
-- Profile: a set has at most one label of a source and key.
use Rattle.std.specs.Prelude.{ℕ, ◌≡◌, ◌+◌, ◌<◌, length, IsTrue, slice_index_or, Bool, false, ◌&&◌, ◌||◌, List, [], ◌∷◌, Option, Some, None, if◌then◌else◌}
use Rattle.std.specs.declared.cmp.Ordering.{Ordering}
use Rattle.std.specs.Ordering.{nat_cmp, ordering_then, is_lt}
use Rattle.std.specs.Cmp.Lexicographic.{slice_cmp}
use Rattle.std.specs.List.{list_any}
use Rattle.std.specs.List.Sorted.{IsStrictlySortedBy}
use Rattle.std.specs.Str.{bytes_eq}
use Rattle.pol_labels.specs.declared.label.Label.{Label}

-- labels by source, then key, then value, each by bytes
abbrev pub label_order : Label → Label → Ordering
label_order a b =
    ordering_then (slice_cmp nat_cmp a.source b.source)
    (ordering_then (slice_cmp nat_cmp a.key b.key) (slice_cmp nat_cmp a.value b.value))

-- labels by source, then key, each by bytes
abbrev pub place_order : Label → Label → Ordering
place_order a b = ordering_then (slice_cmp nat_cmp a.source b.source) (slice_cmp nat_cmp a.key b.key)

-- each label stands before those after it, so no two share source and key
abbrev pub IsLabelSet : List Label → Type 0
IsLabelSet labels = IsStrictlySortedBy place_order labels

-- the labels have one source and key
abbrev pub same_place : Label → Label → Bool
same_place a b = bytes_eq a.source b.source && bytes_eq a.key b.key

-- no label shares source and key with the one after it
abbrev pub NeighboursAreApart : List Label → Type 0
NeighboursAreApart labels =
    (k : ℕ) (d : Label) → k + 1 < length labels
    → same_place (slice_index_or labels k d) (slice_index_or labels (k + 1) d) ≡ false

-- two of the labels share source and key
abbrev pub has_duplicate_key : List Label → Bool
has_duplicate_key [] = false
has_duplicate_key (label ∷ labels) = list_any (same_place label) labels || has_duplicate_key labels

-- the list with one more label, which stands before the first that is not below it
abbrev pub put_in_order : Label → List Label → List Label
put_in_order new [] = new ∷ []
put_in_order new (label ∷ labels) =
    if is_lt (place_order label new) then label ∷ put_in_order new labels else new ∷ label ∷ labels

-- the labels in order
abbrev pub in_order : List Label → List Label
in_order [] = []
in_order (label ∷ labels) = put_in_order label (in_order labels)

-- the set of these labels, and none where two share source and key
abbrev pub label_set_of : List Label → Option (List Label)
label_set_of labels = if has_duplicate_key labels then None else Some (in_order labels)

-- the labels at two places of the list share source and key
pub record ShareKeyAt (labels : List Label) (i j : ℕ) : Type 0 where
  pub ordered : i < j
  pub below : j < length labels
  pub same : (d : Label) → IsTrue (same_place (slice_index_or labels i d) (slice_index_or labels j d))
