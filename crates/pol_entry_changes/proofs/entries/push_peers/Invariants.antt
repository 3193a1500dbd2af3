use Rattle.std.proofs.Common.{◌≡◌, ◌++◌, take}
use Rattle.std.specs.List.{flat_map}
use Rattle.pol_model.specs.PolicyMap.{peer_numbers}
use Rattle.pol_sets.specs.Sets.{set_given}
use Rattle.pol_distill.specs.RawKeys.{entries_for}
use Rattle.pol_entry_changes.proofs.entries.push_peers.Given as goal

abbrev pub invariant-loop-peer : goal.invariant-loop-peer
invariant-loop-peer l =
    l.out.items ≡ l.initial.out.items ++ flat_map (entries_for l.kind l.keys) (flat_map (peer_numbers (set_given l.rows)) (take l.peer-index l.peers))
