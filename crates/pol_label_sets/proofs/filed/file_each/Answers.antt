use Rattle.std.proofs.Common.{◌||◌, ◌&&◌, ◌==◌, ◌∙◌}
use Rattle.pol_headings.specs.Filed.{is_filed}
use Rattle.pol_headings.specs.Heading.{same_heading}
use Rattle.pol_label_sets.proofs.Front.{front-apart, more-filed}
use Rattle.pol_label_sets.proofs.filed.file_each.Goals as goal

pub returns-in_err-file-clause-apart : goal.returns-in_err-file-clause-apart
returns-in_err-file-clause-apart c heading other apart =
    c.in_err-file.ensures.err heading other ∙ c.loop-label.invariant heading other ∙ front-apart _ c.args.labels.now c.loop-label.label-index c.args.place heading other apart

pub loop-label-preserved : goal.loop-label-preserved
loop-label-preserved c heading other =
    c.in_ok-file.ensures.ok heading other
    ∙ (λ i. c.loop-label.invariant heading other i || (same_heading (c.of_label.ensures i) heading && (c.from.ensures i == other)))
    ∙ more-filed (is_filed c.args.filing.now heading other) c.args.labels.now c.loop-label.label-index c.label-item.result c.args.place heading other c.loop-label-test.true c.label-item.is
