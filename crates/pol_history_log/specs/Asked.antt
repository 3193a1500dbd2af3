-- The table of a publication, which its endpoint and its revision tell.
use Rattle.std.specs.Prelude.{ℕ, List, [], Option, None, Some}
use Rattle.pol_mapkey.specs.Entries.{Entry as MapEntry}
use Rattle.pol_model.specs.declared.options.Options.{Options}
use Rattle.pol_history.specs.declared.event.EndpointId.{EndpointId}
use Rattle.pol_history.specs.declared.event.HistoryEvent.{HistoryEvent}
use Rattle.pol_history.specs.Reports.{map_at}

-- the endpoint of that name that was added at the revision
abbrev pub id_of : List ℕ → ℕ → EndpointId
id_of name added = record { name = name; added = added }

-- no entry, where there is no map
abbrev pub or_none : Option (List MapEntry) → List MapEntry
or_none None = []
or_none (Some table) = table

-- the entries of the endpoint's canonical map at a revision
abbrev pub table_at : Options → List HistoryEvent → EndpointId → ℕ → List MapEntry
table_at options history endpoint revision = or_none (map_at options history endpoint revision)
