-- What the lines of a generated script ask, by the draws of the lines themselves ('profile'). A line names no session,
-- so it is of session 1.
use Rattle.std.specs.Prelude.{ℕ, ◌+◌, ◌*◌, ◌%◌, ◌==◌, true, false, if◌then◌else◌, List, [], ◌∷◌, ◌++◌, codes, Some}
use Rattle.std.specs.List.{flat_map, range_with_len}
use Rattle.std.specs.Fmt.{decimal}
use Rattle.pol_addr.specs.Address.{addr_of_octets}
use Rattle.pol_addr.specs.declared.address.Addr.{Addr}
use Rattle.pol_gen.specs.Draws.{after, drawn}
use Rattle.pol_gen.specs.Generated.{draws_before}
use Rattle.pol_labels.specs.declared.label.Label.{Label}
use Rattle.pol_labels.specs.declared.requirement.Operator.TheVariants.{OneOf}
use Rattle.pol_labels.specs.declared.requirement.Requirement.{Requirement}
use Rattle.pol_model.specs.declared.request.Remote.TheVariants as remote
use Rattle.pol_model.specs.declared.request.Request.TheVariants as request
use Rattle.pol_ports.specs.PortRange.{range_from}
use Rattle.pol_ports.specs.declared.Direction.TheVariants.{Ingress}
use Rattle.pol_ports.specs.declared.Proto.TheVariants.{Tcp}
use Rattle.pol_rule.specs.Plain as plain
use Rattle.pol_rule.specs.declared.policy.Entry.{Entry}
use Rattle.pol_rule.specs.declared.policy.Peer.TheVariants.{Labels}
use Rattle.pol_rule.specs.declared.policy.Peers.TheVariants.{Listed}
use Rattle.pol_rule.specs.declared.policy.PolicyKey.{PolicyKey}
use Rattle.pol_rule.specs.declared.policy.Rule.{Rule}
use Rattle.pol_script.specs.declared.command.Command.{Command}
use Rattle.pol_script.specs.declared.command.Command.TheVariants as command

-- ---- endpoints

abbrev pub endpoint_name : ℕ → List ℕ
endpoint_name i = codes "e" ++ decimal i

abbrev pub app_name : ℕ → List ℕ
app_name app = codes "a" ++ decimal app

-- 10.0.0.H
abbrev pub host_address : ℕ → Addr
host_address host = addr_of_octets 10 0 0 host

-- the labels of an endpoint: its application and its namespace
abbrev pub labels_of : ℕ → List Label
labels_of app =
    record { source = codes "k8s"; key = codes "app"; value = app_name app }
    ∷ record { source = codes "k8s"; key = codes "io.kubernetes.pod.namespace"; value = codes "default" }
    ∷ []

abbrev pub add_endpoint : ℕ → ℕ → Command
add_endpoint i app = command.Commit 1 (request.AddEndpoint (endpoint_name i) (labels_of app) (host_address (i + 1)))

abbrev pub endpoint_command : ℕ → ℕ → Command
endpoint_command i x = add_endpoint i (drawn 0 x 8)

-- ---- policies

-- the pods of an application, in the namespace of the policy
abbrev pub pods_of : ℕ → List Requirement
pods_of app =
    record { any_source = true; source = []; key = codes "app"; op = OneOf; values = app_name app ∷ [] }
    ∷ record { any_source = false; source = codes "k8s"; key = codes "io.kubernetes.pod.namespace"; op = OneOf; values = codes "default" ∷ [] }
    ∷ []

-- from the pods of an application, to TCP ports
abbrev pub entry_of : ℕ → ℕ → ℕ → Entry
entry_of from first last =
    record { peers = Listed (Labels (pods_of from) ∷ []); ports = record { proto = Some Tcp; range = range_from first last } ∷ [] }

-- a rule of one entry, which denies in section 0 and allows in any other
abbrev pub rule_of : ℕ → ℕ → Entry → Rule
rule_of app section entry =
    if section == 0
    then record (plain.rule_of (pods_of app)) { ingress_deny = entry ∷ [] }
    else record (plain.rule_of (pods_of app)) { ingress = entry ∷ [] }

abbrev pub policy_key : ℕ → PolicyKey
policy_key name = record { cluster_wide = false; namespace = codes "default"; name = codes "p" ++ decimal name }

abbrev pub apply_policy : ℕ → Rule → Command
apply_policy name rule = command.Commit 1 (request.Apply (record { key = policy_key name; rules = rule ∷ [] }))

abbrev pub apply_command : ℕ → Command
apply_command x =
    let port = drawn 3 x 1024 + 1 in
    apply_policy (drawn 0 x 64) (rule_of (drawn 1 x 8) (drawn 5 x 4) (entry_of (drawn 2 x 8) port (port + drawn 4 x 100)))

-- ---- verdicts

abbrev pub look : ℕ → ℕ → ℕ → Command
look i host port =
    command.Look 1 (record { endpoint = endpoint_name i; dir = Ingress; remote = remote.Address (host_address host); proto = Tcp; port = port })

abbrev pub verdict_command : ℕ → ℕ → Command
verdict_command i x = look i (drawn 0 x 32 + 1) (drawn 1 x 1124 + 1)

-- ---- the script

abbrev pub endpoints : ℕ → List Command
endpoints x = flat_map (λ i. endpoint_command i (after i x) ∷ []) (range_with_len 0 32)

abbrev pub check : ℕ → List Command
check x = command.Sync 1 ∷ flat_map (λ i. verdict_command i (after (2 * i) x) ∷ []) (range_with_len 0 32)

abbrev pub check_behind : ℕ → ℕ → List Command
check_behind n round = if (round + 1) % 10 == 0 then check (after (draws_before round + 6) n) else []

abbrev pub round_commands : ℕ → ℕ → List Command
round_commands n round = apply_command (after (draws_before round) n) ∷ check_behind n round

abbrev pub last_check : ℕ → List Command
last_check n = if n % 10 == 0 then [] else check (after (draws_before n) n)

-- **What the generated script** of n rounds asks.
abbrev pub asked : ℕ → List Command
asked n = endpoints n ++ flat_map (round_commands n) (range_with_len 0 n) ++ last_check n
