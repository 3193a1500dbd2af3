use Rattle.std.proofs.Common.{◌≡◌, ◌++◌, drop}
use Rattle.std.specs.List.{flat_map}
use Rattle.pol_mapkey.specs.declared.Kind.TheVariants.{Deny}
use Rattle.pol_model.specs.PolicyMap.{entry_entries}
use Rattle.pol_sets.specs.Sets.{set_given}
use Rattle.pol_filters.specs.FilterParts.{denying}
use Rattle.pol_distill.proofs.entries.push_denies.Given as goal

-- what is appended so far and what is left are the entries of all
abbrev pub invariant-loop-filter : goal.invariant-loop-filter
invariant-loop-filter l =
    let made = entry_entries (set_given l.sets) l.dir Deny in
    l.out.items ++ flat_map made (denying (drop l.filter-index l.filters)) ≡ l.initial.out.items ++ flat_map made (denying l.filters)
