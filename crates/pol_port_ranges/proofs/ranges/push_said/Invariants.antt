use Rattle.std.proofs.Common.{◌≡◌, ℕ, ◌++◌, drop, map}
use Rattle.pol_port_ranges.specs.declared.said.PortSaid.{PortSaid}
use Rattle.pol_port_ranges.specs.Walk.{walk}
use Rattle.pol_port_ranges.proofs.ranges.push_said.Given as goal

abbrev pub invariant-loop-i : goal.invariant-loop-i
invariant-loop-i l =
    (f : ℕ → PortSaid) → l.words ≡ map f l.ports
    → (l.said ≡ f l.first) × (l.out.items ++ walk f l.first (drop l.i l.ports) ≡ l.initial.out.items ++ walk f 0 l.ports)
