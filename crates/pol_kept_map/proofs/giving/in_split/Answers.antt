use Rattle.std.proofs.Common.{sym, ◌∙◌, arith}
use Rattle.pol_kept_map.proofs.Given.{in_split}
use Rattle.pol_kept_map.proofs.giving.in_split.Goals as goal

pub returns : goal.returns
returns c = c.is_part.ensures ∙ sym (in_split c.args.range c.args.prefix (omega arith))
