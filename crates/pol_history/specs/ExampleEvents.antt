-- What the small histories are made of.
use Rattle.std.specs.Prelude.{ℕ, false, List, [], ◌∷◌, codes, Some}
use Rattle.pol_addr.specs.Address.{addr_of_octets}
use Rattle.pol_mapkey.specs.Entries.{Entry as MapEntry}
use Rattle.pol_model.specs.PolicyMap.{allow_every}
use Rattle.pol_model.specs.declared.limits.TheConstants.{EVERY_IDENTITY}
use Rattle.pol_model.specs.declared.options.Mode.TheVariants.{Default}
use Rattle.pol_model.specs.declared.options.Options.{Options}
use Rattle.pol_model.specs.declared.request.Request.{Request}
use Rattle.pol_model.specs.declared.request.Request.TheVariants.{AddEndpoint, RemoveEndpoint}
use Rattle.pol_ports.specs.declared.Direction.TheVariants.{Egress, Ingress}
use Rattle.pol_history.specs.declared.event.EndpointId.{EndpointId}
use Rattle.pol_history.specs.declared.event.HistoryEvent.{HistoryEvent}
use Rattle.pol_history.specs.declared.event.HistoryEvent.TheVariants as event

-- mode `default`, the local host has no right of its own, and a map has so many entries at most
abbrev pub at_most : ℕ → Options
at_most entries = record { mode = Default; localhost = false; map_max = Some entries }

abbrev pub web : List ℕ
web = codes "web"

abbrev pub add_web : Request
add_web = AddEndpoint web [] (addr_of_octets 10 0 0 1)

abbrev pub remove_web : Request
remove_web = RemoveEndpoint web

-- the endpoint of that name that was added at this revision
abbrev pub web_since : ℕ → EndpointId
web_since added = record { name = web; added = added }

abbrev pub commit : ℕ → ℕ → Request → HistoryEvent
commit pass number request = event.Commit pass number request

abbrev pub publish : ℕ → ℕ → List MapEntry → HistoryEvent
publish added revision table = event.Publish (web_since added) revision table

abbrev pub blocked : ℕ → ℕ → ℕ → HistoryEvent
blocked added revision count = event.Blocked (web_since added) revision count

-- without policies, in mode `default` all may come in and go out; in mode `always` nothing may
abbrev pub all_in : MapEntry
all_in = allow_every Ingress EVERY_IDENTITY

abbrev pub all_out : MapEntry
all_out = allow_every Egress EVERY_IDENTITY

abbrev pub open_map : List MapEntry
open_map = all_in ∷ all_out ∷ []
