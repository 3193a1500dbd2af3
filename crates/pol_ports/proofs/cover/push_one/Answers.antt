use Rattle.std.proofs.Common.{◌≡◌, ◌++◌, List, sym, subst, arith}
use Rattle.pol_ports.specs.declared.PortPrefix.{PortPrefix}
use Rattle.pol_ports.proofs.OnePort.{one_part}
use Rattle.pol_ports.proofs.cover.push_one.Goals as goal

pub returns : goal.returns
returns c =
    subst (λ (parts : List PortPrefix). c.push.new.self.items ≡ c.args.parts.now.items ++ parts)
    (sym (one_part c.args.range c.requires.one (omega arith) c.one_port-part.result c.one_port-part.ensures.bits c.one_port-part.ensures.len)) c.in_ok-push.ensures.items
