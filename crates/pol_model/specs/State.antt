-- The state of the policy core: what all requests so far have made.
use Rattle.std.specs.Prelude.{ℕ, List}
use Rattle.pol_model.specs.declared.options.Mode.{Mode}
use Rattle.pol_model.specs.declared.row.IdentityRow.{IdentityRow}
use Rattle.pol_model.specs.declared.row.NamedIdentity.{NamedIdentity}
use Rattle.pol_model.specs.declared.row.Stamped.{Stamped}
use Rattle.pol_model.specs.declared.row.Endpoint.{Endpoint}

pub record State : Type 0 where
  -- how many requests were accepted so far
  pub revision : ℕ
  -- the mode of enforcement
  pub mode : Mode
  -- the allocated identities, by ascending number
  pub identities : List IdentityRow
  -- the named identities, in the order in which they came
  pub named : List NamedIdentity
  -- the policies, in the order in which their keys came
  pub policies : List Stamped
  -- the live endpoints, by ascending slot
  pub endpoints : List Endpoint
