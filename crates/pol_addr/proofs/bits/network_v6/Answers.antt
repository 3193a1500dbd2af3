use Rattle.std.proofs.Common.{ap, ◌∙◌}
use Rattle.std.specs.Prelude.{bit_and}
use Rattle.pol_addr.proofs.Blocks.{and-mask}
use Rattle.pol_addr.proofs.bits.network_v6.Goals as goal

pub returns : goal.returns
returns c = ap (bit_and c.args.bits) c.mask_v6.ensures ∙ and-mask 128 c.args.len c.args.bits c.ranges.bits.fits
