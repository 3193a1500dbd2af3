use Rattle.std.proofs.Common.{◌≡◌, ℕ, length}
use Rattle.pol_entry_tally.specs.Counted.{of_group}
use Rattle.pol_entry_tally.specs.Gathering.{AreOpen, made_of}
use Rattle.pol_entry_tally.proofs.many.settle.Given as goal

-- those that are left, over what is put so far, make what all make
abbrev pub invariant-loop-one : goal.invariant-loop-one
invariant-loop-one l =
    AreOpen l.tally l.made.items
    × ((g : ℕ) → made_of l.made.items g (of_group l.tally g) ≡ made_of l.fn.made.items g (of_group l.initial.tally g))

abbrev pub decreases-loop-one : goal.decreases-loop-one
decreases-loop-one l = length l.made.items
