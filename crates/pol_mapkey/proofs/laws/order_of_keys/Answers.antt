-- The derived order is the one by fields.
use Rattle.std.proofs.Common.{◌∙◌}
use Rattle.pol_mapkey.proofs.Order.{cmp-key_cmp}
use Rattle.pol_mapkey.proofs.laws.order_of_keys.Goals as goal

pub returns : goal.returns
returns c = c.cmp.ensures ∙ cmp-key_cmp c.args.a.now c.args.b.now
