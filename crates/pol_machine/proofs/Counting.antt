-- Few changes, where the table that comes of them fits.
use Rattle.std.proofs.Common.{◌≡◌, ◌+◌, ◌≤◌, List, ap, arith}
use Rattle.std.specs.FinMap as finite
use Rattle.pol_trie.specs.PolicyMap.{PolicyMap}
use Rattle.pol_map_changes.specs.declared.change.Change.{Change}
use Rattle.pol_map_changes.specs.Changes.{IsAscending, changed, set_count}
use Rattle.pol_map_changes.proofs.Counting.{sets_fit}

-- few changes, where few keys come of them
pub few_changes : (changes : List Change) → IsAscending changes → (trie table : PolicyMap) → trie ≡ table → finite.len table ≤ 65536
    → finite.len (changed changes table) ≤ 65536 → finite.len trie + set_count changes ≤ 1000000
few_changes changes ascending trie table same before after =
    let many : finite.len trie ≡ finite.len table = ap finite.len same in
    let fits = sets_fit changes ascending table in
    omega (arith, many, fits, before, after)
