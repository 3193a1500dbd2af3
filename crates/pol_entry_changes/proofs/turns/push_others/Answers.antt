use Rattle.std.proofs.Common.{not}
use Rattle.pol_ports.specs.declared.Direction.TheVariants.{Ingress, Egress}
use Rattle.pol_model.specs.PolicyMap.{allow_every}
use Rattle.pol_entry_changes.specs.Given.{entry_where}
use Rattle.pol_entry_changes.proofs.Balanced.{three_on}
use Rattle.pol_entry_changes.proofs.turns.push_others.Goals as goal

pub returns : goal.returns
returns c =
    let was = c.args.was.now in
    let is = c.args.is.now in
    three_on (entry_where (not was.ingress_enforced) (allow_every Ingress 0)) (entry_where was.localhost (allow_every Ingress 1)) (entry_where (not was.egress_enforced) (allow_every Egress 0))
    (entry_where (not is.ingress_enforced) (allow_every Ingress 0)) (entry_where is.localhost (allow_every Ingress 1)) (entry_where (not is.egress_enforced) (allow_every Egress 0))
    c.args.out.now c.push_turn_of.new.out c.push_turn_of-2.new.out c.push_turn_of-3.new.out c.in_ok-push_turn_of.ensures c.in_ok-push_turn_of-2.ensures c.push_turn_of-3.result c.push_turn_of-3.ensures
