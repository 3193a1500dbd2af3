-- What the events of a small legal history tell.
use Rattle.std.proofs.Common.{◌≡◌, ℕ, [], ◌∷◌, None, Some}
use Rattle.pol_addr.specs.Address.{addr_of_octets}
use Rattle.pol_model.specs.declared.row.Endpoint.{Endpoint}
use Rattle.pol_history.specs.ExampleEvents.{web}

-- the endpoint's row: without labels, in the first slot
abbrev pub web_row : ℕ → Endpoint
web_row added = record { name = web; slot = 0; added = added; labels = []; identity = 256; address = addr_of_octets 10 0 0 1 }

pub some_is_none : {X : Type 0} (x : X) → Some x ≡ None → ⊥
some_is_none x same = cc

pub two_are_one : {X : Type 0} (x y z : X) → Some (x ∷ y ∷ []) ≡ Some (z ∷ []) → ⊥
two_are_one x y z same = cc

pub some_same : {X : Type 0} (x y : X) → Some x ≡ Some y → x ≡ y
some_same x y same = cc
