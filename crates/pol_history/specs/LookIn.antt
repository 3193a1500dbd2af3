-- What a look-up finds in the content of a board.
use Rattle.std.specs.Prelude.{◌≡◌, ℕ, ◌<◌, ◌^◌, List, Option, None, Some}
use Rattle.pol_mapkey.specs.Entries.{read_map}
use Rattle.pol_ports.specs.declared.Direction.{Direction}
use Rattle.pol_ports.specs.declared.Proto.{Proto}
use Rattle.pol_model.specs.After.{state_of}
use Rattle.pol_model.specs.PolicyMap.{policy_map}
use Rattle.pol_model.specs.Verdict.{verdict_of}
use Rattle.pol_model.specs.declared.options.Options.{Options}
use Rattle.pol_model.specs.declared.request.Query.{Query}
use Rattle.pol_model.specs.declared.request.Remote.{Remote}
use Rattle.pol_model.specs.declared.request.Remote.TheVariants.{Identity, Address}
use Rattle.pol_model.specs.declared.request.Request.{Request}
use Rattle.pol_model.specs.declared.row.Endpoint.{Endpoint}
use Rattle.pol_history.specs.Content.{BoardRow, Content, PublishedMap}
use Rattle.pol_history.specs.Look.{Looked, NoEndpoint, NotYet, Found}

-- the number that a query's remote stands for where the map was published: an address is what it was at the map's revision
abbrev pub number_shown : PublishedMap → Remote → ℕ
number_shown map (Identity number) = number
number_shown map (Address address) = map.numbers address

-- what is found of a live endpoint, after so many commits
abbrev pub look_map : ℕ → Query → Option PublishedMap → Looked
look_map commits query None = NotYet commits
look_map commits query (Some map) = Found map.revision (read_map map.table query.dir (number_shown map query.remote) query.proto query.port)

abbrev pub look_row : ℕ → Query → Option BoardRow → Looked
look_row commits query None = NoEndpoint commits
look_row commits query (Some row) = look_map commits query row.map

-- the endpoint's last published map is read at the number that the remote had at its revision
abbrev pub look_in : Content → Query → Looked
look_in content query = look_row content.commits query (content.live query.endpoint)

-- The law of the map: reading an endpoint's map gives the verdict of a scan of all rules, in each state. It is proved of every
-- choice of options where maps are made.
abbrev pub MapsAreRead : Options → Type 0
MapsAreRead options = (requests : List Request) (endpoint : Endpoint) (dir : Direction) (number : ℕ) (proto : Proto) (port : ℕ) → port < 2 ^ 16
    → read_map (policy_map options (state_of options requests) endpoint) dir number proto port
    ≡ verdict_of options (state_of options requests) endpoint dir number proto port
