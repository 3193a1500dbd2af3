-- The parts of a change, and that changes of two forms are never one.
use Rattle.std.proofs.Common.{◌≡◌, ℕ, ◌==◌, false, List, ap}
use Rattle.std.proofs.lemmas.Bool.{both_ways, eq-eqb}
use Rattle.pol_addr.specs.declared.network.Prefix.{Prefix}
use Rattle.pol_model.specs.declared.options.Mode.{Mode}
use Rattle.pol_model.specs.declared.row.Endpoint.{Endpoint}
use Rattle.pol_model.specs.declared.row.Stamped.{Stamped}
use Rattle.pol_requests.specs.declared.prepared.TableChange.{TableChange}
use Rattle.pol_requests.specs.declared.prepared.TableChange.TheVariants as change

abbrev pub form_of : TableChange → ℕ
form_of (change.Endpoint endpoint name) = 0
form_of (change.NoEndpoint name number) = 1
form_of (change.Named name number) = 2
form_of (change.NotNamed name number) = 3
form_of (change.Policy stamped key taken given_up) = 4
form_of (change.NoPolicy key given_up) = 5
form_of (change.Mode mode) = 6

pub differ : (one other : TableChange) → one ≡ other → (form_of one == form_of other) ≡ false → ⊥
differ one other same apart = both_ways (form_of one == form_of other) apart (eq-eqb (form_of one) (form_of other) (ap form_of same))

-- each part, or the one that is given where the change has none
abbrev pub endpoint_of_change : Endpoint → TableChange → Endpoint
endpoint_of_change d (change.Endpoint endpoint name) = endpoint
endpoint_of_change d _ = d

abbrev pub name_of_change : List ℕ → TableChange → List ℕ
name_of_change d (change.Endpoint endpoint name) = name
name_of_change d (change.NoEndpoint name number) = name
name_of_change d (change.Named name number) = name
name_of_change d (change.NotNamed name number) = name
name_of_change d _ = d

abbrev pub number_of_change : ℕ → TableChange → ℕ
number_of_change d (change.NoEndpoint name number) = number
number_of_change d (change.Named name number) = number
number_of_change d (change.NotNamed name number) = number
number_of_change d _ = d

abbrev pub policy_of_change : Stamped → TableChange → Stamped
policy_of_change d (change.Policy stamped key taken given_up) = stamped
policy_of_change d _ = d

abbrev pub taken_of_change : List Prefix → TableChange → List Prefix
taken_of_change d (change.Policy stamped key taken given_up) = taken
taken_of_change d _ = d

abbrev pub mode_of_change : Mode → TableChange → Mode
mode_of_change d (change.Mode mode) = mode
mode_of_change d _ = d
