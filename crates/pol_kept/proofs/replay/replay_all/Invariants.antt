use Rattle.std.proofs.Common.{◌-◌, length}
use Rattle.pol_kept.specs.Keeps.{IsReplayed}
use Rattle.pol_machine.specs.Stands.{options_in}
use Rattle.pol_kept.proofs.replay.replay_all.Given as goal

-- the requests of the records so far are committed
abbrev pub invariant-loop-at : goal.invariant-loop-at
invariant-loop-at g l = IsReplayed (options_in l.initial.machine) l.bytes l.at l.machine

abbrev pub decreases-loop-at : goal.decreases-loop-at
decreases-loop-at g l = length l.bytes - l.at
