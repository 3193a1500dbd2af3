-- The canonical map of filters and sets.
use Rattle.std.specs.Prelude.{List}
use Rattle.pol_mapkey.specs.Entries.{Entry}
use Rattle.pol_model.specs.declared.options.Options.{Options}
use Rattle.pol_model.specs.declared.row.Endpoint.{Endpoint}
use Rattle.pol_model.specs.PolicyMap.{canonical, raw_entries}
use Rattle.pol_model.specs.Selects.{set_at}
use Rattle.pol_model.specs.State.{State}
use Rattle.pol_model_laws.specs.MapFacts.{AgreeOnParts}
use Rattle.pol_sets.specs.declared.sets.SetRow.{SetRow}
use Rattle.pol_sets.specs.Sets.{set_given}
use Rattle.pol_filters.specs.declared.filter.Filters.{Filters}
use Rattle.pol_filters.specs.FilterParts.{filter_parts}
use Rattle.pol_filters.specs.Resolved.{filters_for}

-- the canonical map of the filters, where a peer selects what its row says
abbrev pub distilled : Filters → List SetRow → List Entry
distilled filters rows = canonical (raw_entries (set_given rows) (filter_parts filters))

-- the filters of an endpoint in a state
abbrev pub filters_at : Options → State → Endpoint → Filters
filters_at options s endpoint = filters_for s.policies endpoint.labels s.mode options.localhost

-- the rows give each peer that the endpoint's filters list the set that the state gives it
abbrev pub HasSetsOf : Options → State → Endpoint → List SetRow → Type 0
HasSetsOf options s endpoint rows = AgreeOnParts (set_given rows) (set_at s.identities) (filter_parts (filters_at options s endpoint))
