-- What an address has among the identities of endpoints and the numbers of prefixes.
use Rattle.std.proofs.Common.{◌≡◌, ℕ, List, Option, None, Some, option_map, refl, ap, ◌∙◌}
use Rattle.std.specs.Option.{option_map_or}
use Rattle.pol_addr.specs.declared.address.Addr.{Addr}
use Rattle.pol_model.specs.declared.row.Endpoint.{Endpoint}
use Rattle.pol_model.specs.declared.row.IdentityRow.{IdentityRow}
use Rattle.pol_model.specs.Remote.{endpoint_at, longest_at, number_at}
use Rattle.pol_model.specs.Worlds.{world_of}
use Rattle.pol_prefixes.specs.Tables.{IsTableOf}
use Rattle.pol_prefixes.proofs.Tables.{longest_found}
use Rattle.pol_prefixes.specs.AddressTable.{AddressTable, TellIdentities, number_in}

number_or : (o : Option Endpoint) (other : ℕ) → option_map_or (λ n. n) (option_map (λ (e : Endpoint). e.identity) o) other ≡ option_map_or (λ (e : Endpoint). e.identity) o other
number_or None other = refl
number_or (Some e) other = refl

found_or : {X : Type 0} (o : Option (X × ℕ)) (other : ℕ) → option_map_or (λ n. n) (option_map (λ (found : X × ℕ). found.1) o) other ≡ option_map_or (λ (found : X × ℕ). found.1) o other
found_or None other = refl
found_or (Some found) other = refl

-- it is the number that a scan of the endpoints and rows finds
pub number_told : (table : AddressTable) (endpoints : List Endpoint) (rows : List IdentityRow) → TellIdentities table.endpoints endpoints → IsTableOf rows table.prefixes
    → (address : Addr) → number_in address table ≡ number_at address endpoints rows
number_told table endpoints rows tells is address =
    (λ j. option_map_or (λ n. n) (tells address j) (option_map_or (λ n. n) (longest_found rows table.prefixes address is j) (world_of address).identity))
    ∙ number_or (endpoint_at address endpoints) (option_map_or (λ n. n) (option_map (λ found. found.1) (longest_at address rows)) (world_of address).identity)
    ∙ ap (option_map_or (λ (e : Endpoint). e.identity) (endpoint_at address endpoints)) (found_or (longest_at address rows) (world_of address).identity)
