use Rattle.std.proofs.Common.{◌≡◌, take}
use Rattle.std.specs.List.{AllByRecursion}
use Rattle.pol_sets.specs.Sets.{set_given}
use Rattle.pol_connection_maps.proofs.again.all_select_the_same.Given as goal

abbrev pub invariant-loop-peer : goal.invariant-loop-peer
invariant-loop-peer l = AllByRecursion (λ p. set_given l.before p ≡ set_given l.after p) (take l.peer-index l.peers)
