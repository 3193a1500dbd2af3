-- Small states with endpoints, prefixes and addresses of both families, for laws that compute what definitions give
-- (`families`).
use Rattle.std.specs.Prelude.{ℕ, ◌+◌, ◌*◌, ◌^◌, List, [], ◌∷◌, codes, map, Option, option_map}
use Rattle.pol_addr.specs.declared.address.Addr.{Addr}
use Rattle.pol_addr.specs.declared.address.Addr.TheVariants.{V6}
use Rattle.pol_addr.specs.declared.network.Prefix.{Prefix}
use Rattle.pol_addr.specs.Address.{addr_of_groups, addr_of_octets}
use Rattle.pol_addr.specs.Prefix.{prefix_of}
use Rattle.pol_mapkey.specs.declared.Word.{Word}
use Rattle.pol_ports.specs.declared.Direction.TheVariants.{Ingress}
use Rattle.pol_ports.specs.declared.Proto.TheVariants.{Tcp}
use Rattle.pol_rule.specs.declared.policy.Entity.{Entity}
use Rattle.pol_rule.specs.declared.policy.Entity.TheVariants as entity
use Rattle.pol_rule.specs.declared.policy.Peer.{Peer}
use Rattle.pol_rule.specs.declared.policy.Peer.TheVariants.{Entity as ByEntity}
use Rattle.pol_model.specs.declared.options.Mode.TheVariants.{Default}
use Rattle.pol_model.specs.declared.options.Options.{Options}
use Rattle.pol_model.specs.declared.request.Remote.TheVariants.{Address}
use Rattle.pol_model.specs.declared.request.Request.{Request}
use Rattle.pol_model.specs.declared.request.Request.TheVariants.{AddEndpoint, Apply, SetMode}
use Rattle.pol_model.specs.After.{state_of}
use Rattle.pol_model.specs.Endpoints.{endpoint_of}
use Rattle.pol_model.specs.Explain.{explain_of}
use Rattle.pol_model.specs.Remote.{number_at, verdict_at_address}
use Rattle.pol_model_laws.specs.Examples.{app, cidrs, wide, word_at}
use Rattle.model_examples.specs.Policies.{entry_for, in_sections, policy_of}

-- 2001:db8::N, 2001:db9::N and fd00::N
abbrev pub in_db8 : ℕ → Addr
in_db8 n = addr_of_groups (8193 ∷ 3512 ∷ 0 ∷ 0 ∷ 0 ∷ 0 ∷ 0 ∷ n ∷ [])

abbrev pub in_db9 : ℕ → Addr
in_db9 n = addr_of_groups (8193 ∷ 3513 ∷ 0 ∷ 0 ∷ 0 ∷ 0 ∷ 0 ∷ n ∷ [])

abbrev pub in_fd00 : ℕ → Addr
in_fd00 n = addr_of_groups (64768 ∷ 0 ∷ 0 ∷ 0 ∷ 0 ∷ 0 ∷ 0 ∷ n ∷ [])

-- 2001:db8::/32
abbrev pub db8 : Prefix
db8 = prefix_of (in_db8 0) 32

-- ::a00:0/104, whose bits are those of 10.0.0.0, and the address in it whose bits are those of 10.0.0.7
abbrev pub like_wide : Prefix
like_wide = prefix_of (V6 (10 * 2 ^ 24)) 104

abbrev pub like_ten : Addr
like_ten = V6 (10 * 2 ^ 24 + 7)

-- 10.0.0.7 and 11.0.0.7
abbrev pub ten : Addr
ten = addr_of_octets 10 0 0 7

abbrev pub eleven : Addr
eleven = addr_of_octets 11 0 0 7

-- under mode `default`, an endpoint `a` at fd00::1, and what follows
abbrev pub web_and : List Request → List Request
web_and others = SetMode Default ∷ AddEndpoint (codes "a") (app (codes "a")) (in_fd00 1) ∷ others

-- a policy that lets these peers in, and one that keeps them out
abbrev pub lets_peers_in : List ℕ → List Peer → Request
lets_peers_in name peers = Apply (policy_of name (in_sections (entry_for peers ∷ []) [] [] [] ∷ []))

abbrev pub keeps_out : List ℕ → Entity → Request
keeps_out name e = Apply (policy_of name (in_sections [] (entry_for (ByEntity e ∷ []) ∷ []) [] [] ∷ []))

-- 10.0.0.0/8 and 2001:db8::/32, which are let in and so hold a number each, everybody else too, and an entity, which isn't
abbrev pub all_but : Entity → List Request
all_but e = web_and (lets_peers_in (codes "p") (cidrs (wide ∷ db8 ∷ [])) ∷ lets_peers_in (codes "q") (ByEntity entity.All ∷ []) ∷ keeps_out (codes "r") e ∷ [])

-- then the verdicts on the host, the three worlds, and the two prefixes, by their numbers
abbrev pub words_of_numbers : Options → List Request → List Word
words_of_numbers options requests = map (word_at options requests Ingress) (1 ∷ 2 ∷ 9 ∷ 10 ∷ 16777217 ∷ 16777218 ∷ [])

-- the verdict of TCP port 80 of `a` on an address, and the address's number
abbrev pub told : Options → List Request → Addr → Option (Word × ℕ)
told options requests address =
    option_map (λ trace. (trace.word, trace.remote))
    (explain_of options (state_of options requests) (record { endpoint = codes "a"; dir = Ingress; remote = Address address; proto = Tcp; port = 80 }))

-- the verdict on an address, judged without identity numbers
abbrev pub told_alone : Options → List Request → Addr → Option Word
told_alone options requests address =
    option_map (λ endpoint. verdict_at_address options (state_of options requests) endpoint Ingress address Tcp 80)
    (endpoint_of (codes "a") (state_of options requests).endpoints)

-- the verdicts on an address of each family inside the two prefixes, and on one of each outside of them
abbrev pub words_of_addresses : Options → List Request → List (Option Word)
words_of_addresses options requests = map (told_alone options requests) (ten ∷ in_db8 5 ∷ eleven ∷ in_db9 1 ∷ [])

-- the number of an address
abbrev pub number_told : Options → List Request → Addr → ℕ
number_told options requests address =
    number_at address (state_of options requests).endpoints (state_of options requests).identities
