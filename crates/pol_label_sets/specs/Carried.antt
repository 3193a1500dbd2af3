-- Which label sets have a label of a heading.
use Rattle.std.specs.Prelude.{Bool, List}
use Rattle.std.specs.List.{list_any}
use Rattle.pol_headings.specs.declared.heading.Heading.{Heading}
use Rattle.pol_headings.specs.Heading.{label_heading, same_heading}
use Rattle.pol_labels.specs.declared.label.Label.{Label}

-- some label has the heading's key and value
abbrev pub carries_heading : Heading → List Label → Bool
carries_heading heading labels = list_any (λ label. same_heading (label_heading label) heading) labels
