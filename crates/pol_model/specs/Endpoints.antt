-- Live endpoints and named identities, by name.
use Rattle.std.specs.Prelude.{ℕ, not, List, map, find, filter, Option}
use Rattle.std.specs.Str.{bytes_eq}
use Rattle.pol_model.specs.declared.row.NamedIdentity.{NamedIdentity}
use Rattle.pol_model.specs.declared.row.Endpoint.{Endpoint}
use Rattle.pol_model.specs.Numbers.{least_free}

-- the live endpoint of that name
abbrev pub endpoint_of : List ℕ → List Endpoint → Option Endpoint
endpoint_of name endpoints = find (λ endpoint. bytes_eq endpoint.name name) endpoints

abbrev pub without_endpoint : List ℕ → List Endpoint → List Endpoint
without_endpoint name endpoints = filter (λ endpoint. not (bytes_eq endpoint.name name)) endpoints

-- the least slot that no live endpoint has
abbrev pub free_slot : List Endpoint → ℕ
free_slot endpoints = least_free 0 (map (λ endpoint. endpoint.slot) endpoints)

-- the named identity of that name
abbrev pub named_of : List ℕ → List NamedIdentity → Option NamedIdentity
named_of name named = find (λ identity. bytes_eq identity.name name) named

abbrev pub without_named : List ℕ → List NamedIdentity → List NamedIdentity
without_named name named = filter (λ identity. not (bytes_eq identity.name name)) named
