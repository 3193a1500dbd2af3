-- What the tables are seen as: the rows in their order, and for how many more there is room.
use Rattle.std.specs.Prelude.{ℕ, ◌≡◌, ◌==◌, List, find, Option, option_map}
use Rattle.pol_model.specs.declared.row.Endpoint.{Endpoint}
use Rattle.pol_model.specs.declared.row.NamedIdentity.{NamedIdentity}
use Rattle.pol_model.specs.declared.row.Stamped.{Stamped}
use Rattle.pol_model.specs.Endpoints.{named_of}

-- live endpoints, ascending by slot
pub record EndpointTable : Type 0 where
  pub list : List Endpoint
  pub room : ℕ

-- named identities; nothing is said of their order
pub record NamedTable : Type 0 where
  pub list : List NamedIdentity
  pub room : ℕ

-- policies in force, in the order in which their keys came
pub record PolicyTable : Type 0 where
  pub list : List Stamped
  pub room : ℕ

-- the live endpoint of that slot
abbrev pub endpoint_in : ℕ → List Endpoint → Option Endpoint
endpoint_in slot endpoints = find (λ endpoint. endpoint.slot == slot) endpoints

-- the number that the name holds
abbrev pub number_named : List ℕ → List NamedIdentity → Option ℕ
number_named name named = option_map (λ identity. identity.number) (named_of name named)

-- each name holds the same number in both, if any
abbrev pub SameNumbers : List NamedIdentity → List NamedIdentity → Type 0
SameNumbers one other = (name : List ℕ) → number_named name one ≡ number_named name other
