-- Which entries filters put into a map, filter by filter.
use Rattle.std.specs.Prelude.{ℕ, Bool, not, if◌then◌else◌, List, [], ◌∷◌, ◌++◌}
use Rattle.std.specs.List.{flat_map}
use Rattle.pol_ports.specs.declared.Direction.{Direction}
use Rattle.pol_ports.specs.declared.Direction.TheVariants.{Ingress, Egress}
use Rattle.pol_mapkey.specs.Entries.{Entry}
use Rattle.pol_mapkey.specs.declared.Kind.{Kind}
use Rattle.pol_mapkey.specs.declared.Kind.TheVariants.{Allow, Deny}
use Rattle.pol_rule.specs.declared.policy.Peer.{Peer}
use Rattle.pol_model.specs.PolicyMap.{allow_every, entry_entries, ports_keys, raw_entries}
use Rattle.pol_sets.specs.declared.sets.SetRow.{SetRow}
use Rattle.pol_sets.specs.Sets.{set_given}
use Rattle.pol_filters.specs.declared.filter.Filter.{Filter}
use Rattle.pol_filters.specs.declared.filter.Filters.{Filters}
use Rattle.pol_filters.specs.FilterParts.{entry_of, filter_parts}
use Rattle.pol_distill.specs.RawKeys.{entries_for}

-- all that filters put into a map, where a peer selects what its row says
abbrev pub raw_of : Filters → List SetRow → List Entry
raw_of filters rows = raw_entries (set_given rows) (filter_parts filters)

-- the kind of a filter's entries
abbrev pub kind_of : Filter → Kind
kind_of one = if one.deny then Deny else Allow

-- the entries of a filter
abbrev pub given_by : (Peer → List ℕ) → Direction → Filter → List Entry
given_by set dir one = entry_entries set dir (kind_of one) (entry_of one)

-- the entries that a filter gives these numbers
abbrev pub of_numbers : Direction → Filter → List ℕ → List Entry
of_numbers dir one ids = flat_map (entries_for (kind_of one) (ports_keys dir 0 one.ports)) ids

-- the entry, where this is so
abbrev pub entry_where : Bool → Entry → List Entry
entry_where b e = if b then e ∷ [] else []

-- those that no filter gives
abbrev pub of_no_filter : Filters → List Entry
of_no_filter filters =
    entry_where (not filters.ingress_enforced) (allow_every Ingress 0)
    ++ entry_where filters.localhost (allow_every Ingress 1)
    ++ entry_where (not filters.egress_enforced) (allow_every Egress 0)

-- those of all filters
abbrev pub of_filters : (Peer → List ℕ) → Filters → List Entry
of_filters set filters = flat_map (given_by set Ingress) filters.ingress ++ flat_map (given_by set Egress) filters.egress

-- all of them, in the order in which they are made
abbrev pub all_given : (Peer → List ℕ) → Filters → List Entry
all_given set filters =
    if filters.never
    then allow_every Ingress 0 ∷ allow_every Egress 0 ∷ []
    else of_filters set filters ++ of_no_filter filters
