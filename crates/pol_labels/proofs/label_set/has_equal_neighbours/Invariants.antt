use Rattle.std.proofs.Common.{◌≡◌, ℕ, ◌+◌, ◌<◌, slice_index_or, false}
use Rattle.pol_labels.specs.declared.label.Label.{Label}
use Rattle.pol_labels.specs.Order.{same_place}
use Rattle.pol_labels.proofs.label_set.has_equal_neighbours.Given as goal

-- the neighbours so far are apart
abbrev pub invariant-loop-i : goal.invariant-loop-i
invariant-loop-i l = (k : ℕ) (d : Label) → k + 1 < l.i → same_place (slice_index_or l.labels k d) (slice_index_or l.labels (k + 1) d) ≡ false
