-- What the examples of runs are made of: requests, a query, and lines with their answers, as values.
use Rattle.std.specs.Prelude.{ℕ, false, List, [], ◌∷◌, codes, Option, None, Some, Ok}
use Rattle.pol_addr.specs.Address.{addr_of_octets}
use Rattle.pol_mapkey.specs.declared.Word.{Word}
use Rattle.pol_model.specs.Worlds.{reserved_label}
use Rattle.pol_model.specs.declared.answer.Fault.{Fault}
use Rattle.pol_model.specs.declared.answer.FullSlot.{FullSlot}
use Rattle.pol_model.specs.declared.options.Mode.{Mode}
use Rattle.pol_model.specs.declared.options.Mode.TheVariants.{Default}
use Rattle.pol_model.specs.declared.options.Options.{Options}
use Rattle.pol_model.specs.declared.request.Query.{Query}
use Rattle.pol_model.specs.declared.request.Remote.TheVariants.{Identity}
use Rattle.pol_model.specs.declared.request.Request.{Request}
use Rattle.pol_model.specs.declared.request.Request.TheVariants.{AddEndpoint, RemoveEndpoint, SetMode}
use Rattle.pol_ports.specs.declared.Direction.TheVariants.{Ingress}
use Rattle.pol_ports.specs.declared.Proto.TheVariants.{Tcp}
use Rattle.pol_answer.specs.declared.answer.Answer.TheVariants as answer
use Rattle.pol_script.specs.declared.command.Command.TheVariants as command
use Rattle.pol_run.specs.Spots.{Line}

-- ---- options

-- mode `default`, the local host has no right of its own, and maps have no limit
abbrev pub unlimited : Options
unlimited = record { mode = Default; localhost = false; map_max = None }

-- the same, where a map has one entry at most
abbrev pub one_entry : Options
one_entry = record { mode = Default; localhost = false; map_max = Some 1 }

-- the same, where it has two
abbrev pub two_entries : Options
two_entries = record { mode = Default; localhost = false; map_max = Some 2 }

-- ---- requests

-- Without policies, and without the label `reserved:init`, an endpoint has a map of two entries in mode
-- `default`, where all is allowed, and an empty one in mode `always`, where nothing is.
abbrev pub web : List ℕ
web = codes "web"

abbrev pub db : List ℕ
db = codes "db"

abbrev pub app : List ℕ
app = codes "app"

abbrev pub add_web : Request
add_web = AddEndpoint web [] (addr_of_octets 10 0 0 1)

abbrev pub add_db : Request
add_db = AddEndpoint db [] (addr_of_octets 10 0 0 2)

abbrev pub add_app : Request
add_app = AddEndpoint app [] (addr_of_octets 10 0 0 3)

-- an endpoint that has no labels yet: in mode `default` it has an empty map
abbrev pub add_init_db : Request
add_init_db = AddEndpoint db (reserved_label (codes "init") ∷ []) (addr_of_octets 10 0 0 2)

abbrev pub remove_web : Request
remove_web = RemoveEndpoint web

abbrev pub set : Mode → Request
set mode = SetMode mode

-- the number of labels that no identity had before
abbrev pub first_number : Option ℕ
first_number = Some 256

-- ---- lines

-- a packet of the identity `world` to port 80 of the endpoint
abbrev pub packet_to : List ℕ → Query
packet_to name = record { endpoint = name; dir = Ingress; remote = Identity 2; proto = Tcp; port = 80 }

-- `ok K`, and the number that the request gave
abbrev pub ok : ℕ → Request → ℕ → Option ℕ → Line
ok session request revision identity = (Ok (command.Commit session request), answer.Committed revision identity)

-- `refused FAULT at K`
abbrev pub refused : ℕ → Request → Fault → ℕ → Line
refused session request fault revision =
    (Ok (command.Commit session request), answer.Refused (record { revision = revision; fault = fault }))

-- `WORD at R`
abbrev pub verdict : ℕ → List ℕ → Word → ℕ → Line
verdict session name word revision = (Ok (command.Look session (packet_to name)), answer.Verdict revision word)

-- `notyet at K`
abbrev pub not_yet : ℕ → List ℕ → ℕ → Line
not_yet session name revision = (Ok (command.Look session (packet_to name)), answer.NotYet revision)

-- `noendpoint at K`
abbrev pub no_endpoint : ℕ → List ℕ → ℕ → Line
no_endpoint session name revision = (Ok (command.Look session (packet_to name)), answer.NoEndpoint revision)

-- `trace WORD at K remote 2 denies - allows -`
abbrev pub trace : ℕ → List ℕ → Word → ℕ → Line
trace session name word revision = (
  Ok (command.Trace session (packet_to name)),
  answer.Traced revision (record { word = word; remote = 2; denies = []; allows = [] }),
)

-- `synced N`, and its rows
abbrev pub synced : ℕ → ℕ → List FullSlot → Line
synced session revision full = (Ok (command.Sync session), answer.Synced revision full)

-- ` NAME@R=COUNT`
abbrev pub full : List ℕ → ℕ → ℕ → FullSlot
full name revision count = record { name = name; revision = revision; count = count }

-- `phase P`
abbrev pub phase : ℕ → Line
phase number = (Ok command.Phase, answer.Phase number)
