use Rattle.std.proofs.Common.{◌≡◌, ◌∙◌, ap}
use Rattle.std.specs.FinMap as finite
use Rattle.pol_model.specs.PolicyMap.{raw_entries}
use Rattle.pol_sets.specs.Sets.{set_given}
use Rattle.pol_filters.specs.FilterParts.{filter_parts}
use Rattle.pol_distill.proofs.OnePass.{canonical_is_table}
use Rattle.pol_map_changes.specs.Changes.{changed, table_of}
use Rattle.pol_map_changes.proofs.Differences.{differences_lead, tables_have_their_entries}
use Rattle.pol_kept_map.specs.Work.{map_of}
use Rattle.pol_kept_map.proofs.laws.lists_lead_from_map_to_map.Goals as goal

pub returns : goal.returns
returns c = λ before after list trie is difference.
    let leads : changed list trie ≡ table_of (map_of after) =
    ap (changed list) is ∙ differences_lead list (table_of (map_of before)) (table_of (map_of after)) difference in
    (leads, ap finite.entries leads ∙ tables_have_their_entries (map_of after) (canonical_is_table (raw_entries (set_given after.rows) (filter_parts after.filters))))
