use Rattle.std.proofs.Common.{◌≡◌, ◌||◌, take}
use Rattle.std.specs.List.{list_any}
use Rattle.pol_headings.specs.declared.heading.Heading.{Heading}
use Rattle.pol_headings.specs.Heading.{label_heading, same_heading}
use Rattle.pol_headings.specs.Tried.{is_among}
use Rattle.pol_headings.proofs.headings.Headings.add_labels.Given as goal

abbrev pub invariant-loop-label : goal.invariant-loop-label
invariant-loop-label l =
    (other : Heading) → is_among l.self other ≡ (is_among l.initial.self other || list_any (λ label. same_heading (label_heading label) other) (take l.label-index l.labels))
