-- The second trie of a published map.
use Rattle.std.specs.Prelude.{◌≡◌, ◌+◌, ◌≤◌}
use Rattle.std.specs.FinMap as finite
use Rattle.pol_map_changes.specs.Changes.{changed, set_count}
use Rattle.pol_trie.specs.PolicyMap.{PolicyMap}
use Rattle.pol_machine.specs.declared.double.Behind.{Behind}

-- its changes lead to this map, and there is room for them
pub record LeadsTo (shown : PolicyMap) (behind : Behind) : Type 0 where
  pub leads : changed behind.changes behind.trie ≡ shown
  pub few : finite.len behind.trie + set_count behind.changes ≤ 1000000
