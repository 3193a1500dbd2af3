use Rattle.std.proofs.Common.{◌+◌, ◌*◌, ◌≤◌, List, [], take}
use Rattle.std.specs.List.{flat_map, sum_by}
use Rattle.pol_mapkey.specs.Entries.{Entry}
use Rattle.pol_audit.specs.Exact.{AreOf, IsPart, groups_at}
use Rattle.pol_audit.specs.Extent.{share_of}
use Rattle.pol_audit.proofs.first.first_of_numbers.Given as goal

-- so far no packet differs
abbrev pub invariant-loop-id : goal.invariant-loop-id
invariant-loop-id g l = record {
  none : (lefts rights : List Entry) → IsPart l.dir l.left lefts → IsPart l.dir l.right rights → AreOf lefts rights (flat_map (groups_at l.dir) (take l.id-index l.numbers)) [];
  forward : l.initial.steps ≤ l.steps;
  cost : l.steps ≤ l.initial.steps + 30 * sum_by (share_of l.left l.right) (take l.id-index l.numbers);
}
