use Rattle.std.proofs.Common.{◌≡◌, ℕ, ◌+◌, ◌≤◌, length}
use Rattle.std.specs.List.{Contains}
use Rattle.pol_mapkey.specs.Entries.{Entry}
use Rattle.pol_audit.specs.Kinds.{last_at}
use Rattle.pol_audit.proofs.kinds.leave_out.Given as goal

abbrev pub invariant-loop-held : goal.invariant-loop-held
invariant-loop-held g l = record {
  low : (e : Entry) → Contains l.held.items e → e.0.port.bits ≤ l.port;
  same : (q : ℕ) → l.port ≤ q → last_at q l.held.items ≡ last_at q l.initial.held.items;
  forward : l.initial.steps ≤ l.steps;
  each : l.steps + length l.held.items ≤ l.initial.steps + length l.initial.held.items;
}

abbrev pub decreases-loop-held : goal.decreases-loop-held
decreases-loop-held g l = length l.held.items
