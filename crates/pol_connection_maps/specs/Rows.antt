-- Which state rows are of.
use Rattle.std.specs.Prelude.{◌≡◌, map}
use Rattle.std.specs.List.{AllByRecursion, IsDistinct}
use Rattle.std.specs.Str.{bytes_eq}
use Rattle.pol_model.specs.declared.options.Options.{Options}
use Rattle.pol_model.specs.Ascending.{Ascends}
use Rattle.pol_model.specs.Sizes.{IsShortPolicy}
use Rattle.pol_model.specs.State.{State}
use Rattle.pol_connections.specs.Ends.{by_name}
use Rattle.pol_connection_maps.specs.declared.rows.StateRows.{StateRows}

-- The policies are short, the identities ascend by number, and each endpoint has a name of its own.
pub record AreSound (rows : StateRows) : Type 0 where
  pub short : AllByRecursion (λ stamped. IsShortPolicy stamped.policy) rows.policies.now
  pub numbers : Ascends (map (λ row. row.number) rows.identities.now)
  pub names : IsDistinct bytes_eq (map (λ endpoint. endpoint.name) rows.endpoints.now)

-- the rows are the state's, the named identities by name
pub record AreRowsOf (options : Options) (s : State) (rows : StateRows) : Type 0 where
  pub mode : rows.mode ≡ s.mode
  pub localhost : rows.localhost ≡ options.localhost
  pub policies : rows.policies.now ≡ s.policies
  pub identities : rows.identities.now ≡ s.identities
  pub endpoints : rows.endpoints.now ≡ s.endpoints
  pub named : rows.named.now ≡ by_name (λ identity. identity.name) s.named
