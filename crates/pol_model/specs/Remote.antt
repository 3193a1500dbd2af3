-- What an address is (Cilium, Terminology, "Identity"): by the numbers that are allocated, and apart from them.
use Rattle.std.specs.Prelude.{ℕ, ◌==◌, false, List, find, Option, None, Some, option_map}
use Rattle.std.specs.List.{filter_map}
use Rattle.std.specs.Option.{option_map_or}
use Rattle.pol_addr.specs.declared.address.Addr.{Addr}
use Rattle.pol_addr.specs.declared.network.Prefix.{Prefix}
use Rattle.pol_addr.specs.Address.{same_addr}
use Rattle.pol_addr.specs.Longest.{longest_of}
use Rattle.pol_addr.specs.Prefix.{contains}
use Rattle.pol_ports.specs.declared.Direction.{Direction}
use Rattle.pol_ports.specs.declared.Proto.{Proto}
use Rattle.pol_mapkey.specs.declared.Word.{Word}
use Rattle.pol_model.specs.declared.limits.TheConstants.{HOST_IDENTITY}
use Rattle.pol_model.specs.declared.options.Options.{Options}
use Rattle.pol_model.specs.declared.request.Query.{Query}
use Rattle.pol_model.specs.declared.request.Remote.{Remote}
use Rattle.pol_model.specs.declared.request.Remote.TheVariants.{Identity, Address}
use Rattle.pol_model.specs.declared.row.Endpoint.{Endpoint}
use Rattle.pol_model.specs.declared.row.IdentityRow.{IdentityRow}
use Rattle.pol_model.specs.State.{State}
use Rattle.pol_model.specs.Selects.{Known, selects, is_core_number}
use Rattle.pol_model.specs.Verdict.{Side, verdict_on, verdict_of}
use Rattle.pol_model.specs.Worlds.{world_of, world_labels}

-- the live endpoint that has the address
abbrev pub endpoint_at : Addr → List Endpoint → Option Endpoint
endpoint_at address endpoints = find (λ endpoint. same_addr endpoint.address address) endpoints

-- the rows that have a prefix, as prefixes with their numbers
abbrev pub numbered_prefixes : List IdentityRow → List (Prefix × ℕ)
numbered_prefixes rows = filter_map (λ row. option_map (λ prefix. (prefix, row.number)) row.prefix) rows

-- the number of the longest held prefix that contains the address, with that prefix
abbrev pub longest_at : Addr → List IdentityRow → Option (Prefix × ℕ)
longest_at address rows = longest_of address (numbered_prefixes rows)

-- An address is that of the endpoint that has it, else of the longest prefix that contains it, else of its world.
abbrev pub number_at : Addr → List Endpoint → List IdentityRow → ℕ
number_at address endpoints rows =
    option_map_or (λ endpoint. endpoint.identity) (endpoint_at address endpoints)
    (option_map_or (λ found. found.1) (longest_at address rows) (world_of address).identity)

-- the number that a query's remote stands for
abbrev pub remote_number : State → Remote → ℕ
remote_number s (Identity number) = number
remote_number s (Address address) = number_at address s.endpoints s.identities

-- the verdict on a query's packet at an endpoint
abbrev pub verdict_for : Options → State → Query → Endpoint → Word
verdict_for options s query endpoint =
    verdict_of options s endpoint query.dir (remote_number s query.remote) query.proto query.port

-- a live endpoint's address: its number and labels, and no prefix
abbrev pub known_endpoint : Endpoint → Known
known_endpoint endpoint = record {
  labels = endpoint.labels;
  lies_in = λ prefix. false;
  is_core = is_core_number endpoint.identity;
}

abbrev pub endpoint_side : Endpoint → Side
endpoint_side endpoint = record { takes = selects (known_endpoint endpoint); is_host = endpoint.identity == HOST_IDENTITY }

-- any other address: no number, the label of its world, and each prefix that contains it
abbrev pub known_outside : Addr → Known
known_outside address = record {
  labels = world_labels (world_of address);
  lies_in = λ prefix. contains prefix address;
  is_core = false;
}

abbrev pub outside_side : Addr → Side
outside_side address = record { takes = selects (known_outside address); is_host = false }

abbrev pub address_side : Addr → Option Endpoint → Side
address_side address None = outside_side address
address_side address (Some endpoint) = endpoint_side endpoint

-- The verdict at an address, judged without identity numbers for addresses outside the endpoints.
abbrev pub verdict_at_address : Options → State → Endpoint → Direction → Addr → Proto → ℕ → Word
verdict_at_address options s endpoint dir address proto port =
    verdict_on options s endpoint dir (address_side address (endpoint_at address s.endpoints)) proto port
