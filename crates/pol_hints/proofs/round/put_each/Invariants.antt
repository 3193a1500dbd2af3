use Rattle.std.specs.Prelude.{◌≡◌, ◌≤◌, ◌-◌, ◌++◌}
use Rattle.std.specs.List.{range_with_len}
use Rattle.pol_hints.proofs.round.put_each.Given as goal

-- those up to here were put
abbrev pub invariant-loop-slot : goal.invariant-loop-slot
invariant-loop-slot l = record {
  within : l.from ≤ l.slot;
  room : l.waiting.capacity ≡ l.initial.waiting.capacity;
  put : l.waiting.items ≡ l.initial.waiting.items ++ range_with_len l.from (l.slot - l.from);
}
