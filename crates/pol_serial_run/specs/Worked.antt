-- A small script, its answers, and a second one that is played after its requests.
use Rattle.std.specs.Prelude.{ℕ, true, false, List, [], ◌∷◌, codes, None, Some, Ok}
use Rattle.pol_addr.specs.declared.address.Addr.{Addr}
use Rattle.pol_addr.specs.Address.{addr_of_groups, addr_of_octets}
use Rattle.pol_answer.specs.declared.answer.Answer.{Answer}
use Rattle.pol_answer.specs.declared.answer.Answer.TheVariants as answer
use Rattle.pol_labels.specs.declared.label.Label.{Label}
use Rattle.pol_labels.specs.declared.requirement.Operator.TheVariants.{OneOf}
use Rattle.pol_labels.specs.declared.requirement.Requirement.{Requirement}
use Rattle.pol_mapkey.specs.declared.Word.TheVariants.{Allowed, DeniedByDefault}
use Rattle.pol_model.specs.declared.answer.Fault.TheVariants.{DuplicateEndpoint}
use Rattle.pol_model.specs.declared.options.Mode.TheVariants.{Default}
use Rattle.pol_model.specs.declared.options.Options.{Options}
use Rattle.pol_model.specs.declared.request.Query.{Query}
use Rattle.pol_model.specs.declared.request.Remote.TheVariants.{Address}
use Rattle.pol_model.specs.declared.request.Request.{Request}
use Rattle.pol_model.specs.declared.request.Request.TheVariants.{AddEndpoint, Apply}
use Rattle.pol_model_laws.specs.WorkedMaps.{k8s_label, key_of, namespace_is_default, namespace_label}
use Rattle.pol_ports.specs.declared.Direction.TheVariants.{Ingress}
use Rattle.pol_ports.specs.declared.Proto.TheVariants.{Tcp}
use Rattle.pol_rule.specs.Plain.{rule_of}
use Rattle.pol_rule.specs.declared.policy.Peer.TheVariants as peer
use Rattle.pol_rule.specs.declared.policy.Peers.TheVariants.{Listed}
use Rattle.pol_rule.specs.declared.policy.Place.{Place}
use Rattle.pol_rule.specs.declared.policy.Section.TheVariants as section
use Rattle.pol_run.specs.Spots.{Reading}
use Rattle.pol_script.specs.declared.command.Command.TheVariants as command

-- what the program takes where no word says anything
abbrev pub usual : Options
usual = record { mode = Default; localhost = true; map_max = Some 16384 }

-- ---- requests

abbrev pub ship : List ℕ → List ℕ → ℕ → Request
ship class org host = AddEndpoint class
    (k8s_label (codes "class") class ∷ namespace_label ∷ k8s_label (codes "org") org ∷ [])
    (addr_of_octets 10 0 0 host)

abbrev pub has : List ℕ → List ℕ → Requirement
has key value = record { any_source = true; source = []; key = key; op = OneOf; values = value ∷ [] }

-- the empire's ships may come in to the deathstar
abbrev pub rule1 : Request
rule1 = Apply (record {
  key = key_of (codes "rule1");
  rules =
      record (rule_of (has (codes "class") (codes "deathstar") ∷ has (codes "org") (codes "empire") ∷ namespace_is_default ∷ [])) {
        ingress = record { peers = Listed (peer.Labels (has (codes "org") (codes "empire") ∷ namespace_is_default ∷ []) ∷ []); ports = [] } ∷ [];
      }
      ∷ [];
})

abbrev pub deathstar : Request
deathstar = ship (codes "deathstar") (codes "empire") 1

abbrev pub requests : List Request
requests = deathstar ∷ ship (codes "tiefighter") (codes "empire") 2 ∷ ship (codes "xwing") (codes "alliance") 3 ∷ rule1 ∷ []

-- ---- lines

abbrev pub commit : Request → Reading
commit request = Ok (command.Commit 1 request)

-- a packet that comes in to the deathstar from this address, on port 80
abbrev pub packet_from : Addr → Query
packet_from address = record { endpoint = codes "deathstar"; dir = Ingress; remote = Address address; proto = Tcp; port = 80 }

-- from this host
abbrev pub packet : ℕ → Query
packet host = packet_from (addr_of_octets 10 0 0 host)

-- 2001:db8::1, which no ship has
abbrev pub beyond : Addr
beyond = addr_of_groups (8193 ∷ 3512 ∷ 0 ∷ 0 ∷ 0 ∷ 0 ∷ 0 ∷ 1 ∷ [])

abbrev pub asks : ℕ → Reading
asks host = Ok (command.Look 1 (packet host))

abbrev pub sync : Reading
sync = Ok (command.Sync 1)

-- ---- scripts

-- requests, a sync and two verdicts, with one request that is refused
abbrev pub lines : List Reading
lines =
    commit deathstar
    ∷ commit (ship (codes "tiefighter") (codes "empire") 2)
    ∷ commit deathstar
    ∷ commit (ship (codes "xwing") (codes "alliance") 3)
    ∷ commit rule1
    ∷ sync
    ∷ asks 2
    ∷ asks 3
    ∷ []

abbrev pub answers : List Answer
answers =
    answer.Committed 1 (Some 256)
    ∷ answer.Committed 2 (Some 257)
    ∷ answer.Refused (record { revision = 2; fault = DuplicateEndpoint })
    ∷ answer.Committed 3 (Some 258)
    ∷ answer.Committed 4 None
    ∷ answer.Synced 4 []
    ∷ answer.Verdict 4 Allowed
    ∷ answer.Verdict 4 DeniedByDefault
    ∷ []

-- After those requests no map is published before a sync. An address that no ship has is outside, by its family.
abbrev pub later_lines : List Reading
later_lines =
    asks 2
    ∷ sync
    ∷ asks 2
    ∷ Ok command.Phase
    ∷ Ok (command.Trace 1 (packet 2))
    ∷ Ok (command.Trace 1 (packet 9))
    ∷ Ok (command.Trace 1 (packet_from beyond))
    ∷ []

abbrev pub rule1_place : Place
rule1_place = record { key = key_of (codes "rule1"); rule = 0; section = section.Ingress; entry = 0 }

abbrev pub later_answers : List Answer
later_answers =
    answer.NotYet 4
    ∷ answer.Synced 4 []
    ∷ answer.Verdict 4 Allowed
    ∷ answer.Phase 1
    ∷ answer.Traced 4 (record { word = Allowed; remote = 257; denies = []; allows = rule1_place ∷ [] })
    ∷ answer.Traced 4 (record { word = DeniedByDefault; remote = 9; denies = []; allows = [] })
    ∷ answer.Traced 4 (record { word = DeniedByDefault; remote = 10; denies = []; allows = [] })
    ∷ []
