use Rattle.std.proofs.Common.{◌||◌, ◌&&◌, ◌==◌, ◌∙◌}
use Rattle.pol_headings.specs.Filed.{is_filed}
use Rattle.pol_headings.specs.Heading.{same_heading}
use Rattle.pol_selcache.proofs.Filed.{more-filed}
use Rattle.pol_selcache.proofs.by_heading.file_under.Goals as goal

pub loop-heading-preserved : goal.loop-heading-preserved
loop-heading-preserved c heading n =
    c.in_ok-file.ensures.ok heading n
    ∙ (λ i. c.loop-heading.invariant heading n i || (same_heading (c.of_heading.ensures i) heading && (c.from.ensures i == n)))
    ∙ more-filed (is_filed c.args.filing.now heading n) c.args.headings.now c.loop-heading.heading-index c.heading-item.result c.args.number heading n c.loop-heading-test.true c.heading-item.is
