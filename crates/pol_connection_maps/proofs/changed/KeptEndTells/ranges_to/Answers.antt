use Rattle.std.proofs.Common.{refl, sym, ◌∙◌}
use Rattle.pol_connection_maps.proofs.Shown.{stays_none}
use Rattle.pol_connection_maps.proofs.changed.KeptEndTells.ranges_to.Goals as goal

pub returns-then-stays_with : goal.returns-then-stays_with
returns-then-stays_with c = c.new.ensures.items ∙ sym (stays_none c.args.self.now c.args.to.now (c.if-stays_with.ensures refl) c.args.proto)
