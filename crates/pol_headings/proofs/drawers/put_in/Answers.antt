use Rattle.std.proofs.Common.{◌==◌, true, ◌∙◌}
use Rattle.pol_headings.specs.Filed.{has}
use Rattle.pol_headings.proofs.Numbers.{put-there, written}
use Rattle.pol_headings.proofs.drawers.put_in.Goals as goal

pub returns-clause-ok : goal.returns-clause-ok
returns-clause-ok c = λ n.
    written true c.args.number c.args.numbers.now.keys c.insert.new.self.keys c.in_ok-insert.ensures.updates.0 n
    ∙ put-there (c.args.number == n) (has n c.args.numbers.now.keys)
