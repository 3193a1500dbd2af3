use Rattle.std.proofs.Common.{sym, ap, ◌∙◌}
use Rattle.pol_addr.specs.Prefix.{covers}
use Rattle.pol_addr.specs.declared.network.Prefix.{Prefix}
use Rattle.pol_prefix_table.proofs.starts.renew_one.Goals as goal

pub walk_on-requires-clause-over : goal.walk_on-requires-clause-over
walk_on-requires-clause-over g c = ap (λ (p : Prefix). covers p c.to-to.result) c.requires.from_over ∙ sym c.covers.ensures.value ∙ c.if-not-covers.false
