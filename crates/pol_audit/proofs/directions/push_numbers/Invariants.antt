use Rattle.std.proofs.Common.{◌+◌, ◌*◌, ◌≤◌, List, length, take}
use Rattle.std.specs.List.{flat_map, sum_by}
use Rattle.pol_mapkey.specs.Entries.{Entry}
use Rattle.pol_audit.specs.Exact.{Grown, IsPart, groups_at}
use Rattle.pol_audit.specs.Extent.{share_of}
use Rattle.pol_audit.proofs.directions.push_numbers.Given as goal

abbrev pub invariant-loop-id : goal.invariant-loop-id
invariant-loop-id g l = record {
  grown : (lefts rights : List Entry) → IsPart l.dir l.left lefts → IsPart l.dir l.right rights → Grown lefts rights (flat_map (groups_at l.dir) (take l.id-index l.numbers)) l.initial.out.items l.out.items;
  few : length l.out.items ≤ length l.initial.out.items + 6 * sum_by (share_of l.left l.right) (take l.id-index l.numbers);
  forward : l.initial.steps ≤ l.steps;
  cost : l.steps ≤ l.initial.steps + 30 * sum_by (share_of l.left l.right) (take l.id-index l.numbers);
}
