use Rattle.std.proofs.Common.{None, sym, ◌∙◌}
use Rattle.pol_headings.specs.Heading.{heading_by}
use Rattle.pol_headings.proofs.Refiled.{filed_at, rewritten}
use Rattle.pol_headings.proofs.drawers.clear.Goals as goal

pub returns-clause-rest : goal.returns-clause-rest
returns-clause-rest c =
    let es = c.args.drawers.now.entries in
    let heading = heading_by c.args.heading.now in
    rewritten es c.swap_remove.new.self.entries heading None
    (λ q. c.swap_remove.ensures.updates.0 q)
    (λ n. sym (sym (filed_at es heading n) ∙ c.requires.empty n))
