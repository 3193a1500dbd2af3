use Rattle.std.proofs.Common.{◌≡◌, ◌+◌, ◌≤◌, drop, take}
use Rattle.std.specs.FinMap as finite
use Rattle.pol_map_changes.specs.Changes.{changed, set_count}
use Rattle.pol_map_changes.proofs.list.ChangeList.apply_to.Given as goal

-- the changes so far are made, and there is room for the rest
abbrev pub invariant-loop-change : goal.invariant-loop-change
invariant-loop-change l = (l.trie ≡ changed (take l.change-index l.self) l.initial.trie) × (finite.len l.trie + set_count (drop l.change-index l.self) ≤ 1000000)
