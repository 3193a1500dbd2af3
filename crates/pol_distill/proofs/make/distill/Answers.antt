use Rattle.std.proofs.Common.{◌≡◌, sym, subst}
use Rattle.std.specs.List.{AllByRecursion}
use Rattle.pol_model.specs.PolicyMap.{canonical, raw_entries}
use Rattle.pol_sets.specs.Sets.{set_given}
use Rattle.pol_filters.specs.FilterParts.{filter_parts}
use Rattle.pol_distill.specs.Sorted.{IsSmall, IsTable}
use Rattle.pol_distill.proofs.OnePass.{canonical_is_table}
use Rattle.pol_distill.proofs.Small.{raw_small}
use Rattle.pol_distill.proofs.make.distill.Goals as goal

pub canonical-requires : goal.canonical-requires
canonical-requires c =
    let set = set_given c.in_ok-index.index in
    let made : c.in_ok-raw.raw.items ≡ raw_entries set (filter_parts c.args.filters.now) = c.in_ok-raw.ensures in
    subst (AllByRecursion IsSmall) (sym made) (raw_small set (filter_parts c.args.filters.now))

pub new-requires-2 : goal.new-requires-2
new-requires-2 c =
    let made : c.in_ok-canonical.field-0.items ≡ canonical c.in_ok-raw.raw.items = c.in_ok-canonical.ensures in
    subst IsTable (sym made) (canonical_is_table c.in_ok-raw.raw.items)
