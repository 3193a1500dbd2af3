use Rattle.std.proofs.Common.{◌≡◌, ◌++◌, map, take}
use Rattle.std.specs.List.{flat_map}
use Rattle.pol_rule.specs.Prefixes.{peer_prefixes}
use Rattle.pol_rule.proofs.holding.push_each.Given as goal

abbrev pub invariant-loop-peer : goal.invariant-loop-peer
invariant-loop-peer l = l.out.items ≡ l.initial.out.items ++ flat_map peer_prefixes (map (λ p. p.now) (take l.peer-index l.peers))
