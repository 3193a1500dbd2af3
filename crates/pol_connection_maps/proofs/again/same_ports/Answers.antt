use Rattle.std.proofs.Common.{sym, ◌∙◌}
use Rattle.std.specs.Cmp.Lexicographic.{pointwise_decides}
use Rattle.pol_rule.proofs.Equality.{port_spec_eq-Decides}
use Rattle.pol_connection_maps.proofs.again.same_ports.Goals as goal

pub returns : goal.returns
returns c = λ same. (pointwise_decides port_spec_eq-Decides c.args.one.now c.args.other.now).0 (sym c.eq.ensures ∙ same)
