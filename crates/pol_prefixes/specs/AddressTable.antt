-- What addresses are seen as, and which number an address has among them.
use Rattle.std.specs.Prelude.{ℕ, ◌≡◌, List, option_map, refl}
use Rattle.std.specs.Coded.{Coded, code_by, coded×, coded_list, coded_ℕ}
use Rattle.std.specs.Map.{lookup}
use Rattle.std.specs.Option.{option_map_or}
use Rattle.pol_addr.specs.declared.address.Addr.{Addr}
use Rattle.pol_addr.specs.Order.{addr_code}
use Rattle.pol_addr.specs.contracts.address.AddrPartialEq.TheImpl as addr
use Rattle.pol_model.specs.declared.row.Endpoint.{Endpoint}
use Rattle.pol_model.specs.Remote.{endpoint_at}
use Rattle.pol_model.specs.Worlds.{world_of}
use Rattle.pol_prefix_table.specs.Table.{PrefixMap, look_up, table_code}

-- the addresses of endpoints with their identities, and the numbers of prefixes
pub record AddressTable : Type 0 where
  pub endpoints : List (Addr × ℕ)
  pub prefixes : PrefixMap

-- it is stored as the pair of both
abbrev pub address_code : Coded AddressTable
address_code =
    code_by (List (Addr × ℕ) × PrefixMap) (coded× (coded_list (coded× addr_code coded_ℕ)) table_code)
    (λ t. (t.endpoints, t.prefixes)) (λ p. record { endpoints = p.0; prefixes = p.1 }) (λ _. refl)

-- the number of an address: that of the endpoint that has it, else of the longest prefix that contains it, else of its world
abbrev pub number_in : Addr → AddressTable → ℕ
number_in address table =
    option_map_or (λ number. number) (lookup (addr.ghosts.eq address) table.endpoints)
    (option_map_or (λ number. number) (look_up table.prefixes address) (world_of address).identity)

-- each address has the identity of the endpoint that has it
abbrev pub TellIdentities : List (Addr × ℕ) → List Endpoint → Type 0
TellIdentities entries endpoints =
    (address : Addr) → lookup (addr.ghosts.eq address) entries ≡ option_map (λ endpoint. endpoint.identity) (endpoint_at address endpoints)
