use Rattle.std.proofs.Common.{◌≡◌, ◌||◌, ℕ, take}
use Rattle.pol_headings.specs.declared.heading.Heading.{Heading}
use Rattle.pol_headings.specs.Filed.{is_filed}
use Rattle.pol_label_sets.specs.Filed.{is_of}
use Rattle.pol_label_sets.proofs.filed.file_each.Given as goal

abbrev pub invariant-loop-label : goal.invariant-loop-label
invariant-loop-label l =
    (heading : Heading) (other : ℕ) → is_filed l.filing heading other ≡ (is_filed l.fn.filing heading other || is_of (take l.label-index l.labels) l.place heading other)
