use Rattle.std.proofs.Common.{◌==◌, false, ◌∙◌}
use Rattle.pol_headings.specs.Filed.{has}
use Rattle.pol_headings.proofs.Numbers.{taken-out, written}
use Rattle.pol_headings.proofs.drawers.take_out.Goals as goal

pub returns : goal.returns
returns c = λ n.
    written false c.args.number c.args.numbers.now.keys c.remove.new.self.keys c.remove.ensures.updates.0 n
    ∙ taken-out (c.args.number == n) (has n c.args.numbers.now.keys)
