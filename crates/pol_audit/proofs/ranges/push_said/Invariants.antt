use Rattle.std.proofs.Common.{◌≡◌, ℕ, ◌++◌, drop, map}
use Rattle.pol_mapkey.specs.declared.Word.{Word}
use Rattle.pol_audit.specs.Ranges.{ranges_from}
use Rattle.pol_audit.proofs.ranges.push_said.Given as goal

abbrev pub invariant-loop-i : goal.invariant-loop-i
invariant-loop-i l =
    (said : ℕ → Word × Word) → l.left ≡ map (λ port. (said port).0) l.ports → l.right ≡ map (λ port. (said port).1) l.ports
    → (l.said ≡ said l.first) × (l.out.items ++ ranges_from l.group said l.first (drop l.i l.ports) ≡ l.initial.out.items ++ ranges_from l.group said 0 l.ports)
