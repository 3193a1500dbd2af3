use Rattle.std.proofs.Common.{take}
use Rattle.std.specs.List.{flat_map}
use Rattle.pol_model.specs.PolicyMap.{peer_numbers}
use Rattle.pol_sets.specs.Sets.{set_given}
use Rattle.pol_entry_changes.specs.Balance.{GoesOn}
use Rattle.pol_entry_changes.specs.Given.{of_numbers}
use Rattle.pol_entry_changes.proofs.staying.peers_stay.Given as goal

abbrev pub invariant-loop-peer : goal.invariant-loop-peer
invariant-loop-peer l =
    GoesOn (of_numbers l.dir l.one (flat_map (peer_numbers (set_given l.was)) (take l.peer-index l.peers)))
    (of_numbers l.dir l.one (flat_map (peer_numbers (set_given l.is.rows)) (take l.peer-index l.peers))) l.initial.out l.out
