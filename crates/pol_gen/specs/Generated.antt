-- The script that is generated for a number ('profile'). Each part is given the number that the generator
-- has before it.
use Rattle.std.specs.Prelude.{ℕ, ◌+◌, ◌*◌, ◌/◌, ◌%◌, ◌==◌, if◌then◌else◌, List, [], ◌++◌, codes}
use Rattle.std.specs.List.{flat_map, range_with_len}
use Rattle.std.specs.Fmt.{decimal}
use Rattle.pol_gen.specs.Draws.{after, drawn}

-- ---- lines

-- an endpoint: its number, and its application
abbrev pub endpoint_text : ℕ → ℕ → List ℕ
endpoint_text i app =
    codes "{\"op\":\"endpoint\",\"name\":\"e" ++ decimal i
    ++ codes "\",\"labels\":[\"k8s:app=a" ++ decimal app
    ++ codes "\",\"k8s:io.kubernetes.pod.namespace=default\"],\"address\":\"10.0.0." ++ decimal (i + 1)
    ++ codes "\"}\n"

abbrev pub endpoint_line : ℕ → ℕ → List ℕ
endpoint_line i x = endpoint_text i (drawn 0 x 8)

abbrev pub section_text : ℕ → List ℕ
section_text section = if section == 0 then codes "\"}},\"ingressDeny\":[" else codes "\"}},\"ingress\":["

-- a policy of one rule: its name, the application of its endpoints, and its section
abbrev pub policy_head : ℕ → ℕ → ℕ → List ℕ
policy_head name app section =
    codes "{\"op\":\"apply\",\"policy\":{\"apiVersion\":\"cilium.io/v2\",\"kind\":\"CiliumNetworkPolicy\",\"metadata\":{\"name\":\"p" ++ decimal name
    ++ codes "\"},\"spec\":{\"endpointSelector\":{\"matchLabels\":{\"app\":\"a" ++ decimal app
    ++ section_text section

-- its entry: the application of its peers, and its ports
abbrev pub policy_entry : ℕ → ℕ → ℕ → List ℕ
policy_entry from first last =
    codes "{\"fromEndpoints\":[{\"matchLabels\":{\"app\":\"a" ++ decimal from
    ++ codes "\"}}],\"toPorts\":[{\"ports\":[{\"port\":\"" ++ decimal first
    ++ codes "\",\"endPort\":" ++ decimal last
    ++ codes ",\"protocol\":\"TCP\"}]}]}]}}}\n"

abbrev pub apply_line : ℕ → List ℕ
apply_line x =
    let port = drawn 3 x 1024 + 1 in
    policy_head (drawn 0 x 64) (drawn 1 x 8) (drawn 5 x 4) ++ policy_entry (drawn 2 x 8) port (port + drawn 4 x 100)

abbrev pub verdict_text : ℕ → ℕ → ℕ → List ℕ
verdict_text i host port =
    codes "{\"op\":\"verdict\",\"endpoint\":\"e" ++ decimal i
    ++ codes "\",\"direction\":\"ingress\",\"address\":\"10.0.0." ++ decimal host
    ++ codes "\",\"protocol\":\"TCP\",\"port\":" ++ decimal port
    ++ codes "}\n"

abbrev pub verdict_line : ℕ → ℕ → List ℕ
verdict_line i x = verdict_text i (drawn 0 x 32 + 1) (drawn 1 x 1124 + 1)

-- ---- the script

-- 32 endpoints, a draw each
abbrev pub endpoints : ℕ → List ℕ
endpoints x = flat_map (λ i. endpoint_line i (after i x)) (range_with_len 0 32)

-- a synchronisation, and a verdict for each endpoint, two draws each
abbrev pub check : ℕ → List ℕ
check x = codes "{\"op\":\"sync\"}\n" ++ flat_map (λ i. verdict_line i (after (2 * i) x)) (range_with_len 0 32)

-- The draws before a round, counted from 0: those of the endpoints, six in each round, and 64 in each check. A
-- check stands behind every tenth round.
abbrev pub draws_before : ℕ → ℕ
draws_before round = 32 + 6 * round + 64 * (round / 10)

abbrev pub check_behind : ℕ → ℕ → List ℕ
check_behind n round = if (round + 1) % 10 == 0 then check (after (draws_before round + 6) n) else []

abbrev pub round_lines : ℕ → ℕ → List ℕ
round_lines n round = apply_line (after (draws_before round) n) ++ check_behind n round

-- and behind the last round, where it is no tenth one
abbrev pub last_check : ℕ → List ℕ
last_check n = if n % 10 == 0 then [] else check (after (draws_before n) n)

-- **The generated script** of n rounds.
abbrev pub generated : ℕ → List ℕ
generated n = endpoints n ++ flat_map (round_lines n) (range_with_len 0 n) ++ last_check n
