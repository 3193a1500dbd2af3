use Rattle.std.proofs.Common.{sym, subst}
use Rattle.pol_audit.specs.Tables.{IsTable}
use Rattle.pol_distill.proofs.OnePass.{canonical_is_table}
use Rattle.pol_filters.specs.FilterParts.{filter_parts}
use Rattle.pol_model.specs.PolicyMap.{raw_entries}
use Rattle.pol_sets.specs.Sets.{set_given}
use Rattle.pol_map_dump.proofs.map.taken_map.Goals as goal

pub entries_of-requires : goal.entries_of-requires
entries_of-requires c =
    subst IsTable (sym c.in_ok-table.ensures.canonical)
    (canonical_is_table (raw_entries (set_given c.args.taken.sets) (filter_parts c.deref.result.now)))
