use Rattle.std.proofs.Common.{◌≡◌, ◌||◌, ◌++◌, drop, filter_map}
use Rattle.std.specs.List.{list_any}
use Rattle.pol_sanitize.specs.Peers.{has_outside_exception, is_bad_set, set_peer}
use Rattle.pol_sanitize.proofs.peers.push_sets.Given as goal

abbrev pub invariant-loop-set : goal.invariant-loop-set
invariant-loop-set l = record {
  peers : l.peers.items ++ filter_map set_peer (drop l.set-index l.sets) ≡ l.initial.peers.items ++ filter_map set_peer l.sets;
  bad : list_any is_bad_set (drop l.set-index l.sets) ≡ list_any is_bad_set l.sets;
  outside : (l.outside || list_any has_outside_exception (drop l.set-index l.sets)) ≡ list_any has_outside_exception l.sets;
}
