use Rattle.std.proofs.Common.{◌+◌, ◌-◌, ◌*◌, ◌≤◌, length}
use Rattle.pol_audit.proofs.Open.{Taken}
use Rattle.pol_audit.proofs.kinds.take_in.Given as goal

abbrev pub invariant-loop-held : goal.invariant-loop-held
invariant-loop-held g l = record {
  within : l.next ≤ length l.entries;
  taken : Taken l.port l.place l.next l.entries l.initial.held.items l.held.items;
  forward : l.initial.steps ≤ l.steps;
  cost : l.steps + l.place ≤ l.initial.steps + l.next;
  each : l.steps + length l.held.items + 2 * l.place ≤ l.initial.steps + length l.initial.held.items + 2 * l.next;
}

abbrev pub decreases-loop-held : goal.decreases-loop-held
decreases-loop-held g l = length l.entries - l.next
