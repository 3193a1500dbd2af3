-- How many entries the policy maps of a generated script have.
use Rattle.std.specs.Prelude.{ℕ, ◌+◌, ◌*◌, ◌≤◌, take, IfSome}
use Rattle.pol_model.specs.After.{state_of}
use Rattle.pol_model.specs.PolicyMap.{map_size}
use Rattle.pol_model.specs.State.{State}
use Rattle.pol_model.specs.declared.options.Options.{Options}
use Rattle.pol_model.specs.declared.row.Endpoint.{Endpoint}
use Rattle.pol_generated.specs.Requests.{requests_asked}

-- the state after so many requests of the generated script of n rounds
abbrev pub state_asked : Options → ℕ → ℕ → State
state_asked options n revision = state_of options (take revision (requests_asked n))

-- Each of 64 policies lets in or denies one identity, by 30 port prefixes at most. Beside these stand the keys of the local
-- host and of two directions without rules.
abbrev pub most_entries : ℕ
most_entries = 64 * 30 + 3

-- No map has more, at any revision.
abbrev pub MapsAreSmall : Options → ℕ → Type 0
MapsAreSmall options n = (revision : ℕ) (endpoint : Endpoint) → map_size options (state_asked options n revision) endpoint ≤ most_entries

-- so many entries may be in a map: there is no limit, or it is no less
abbrev pub HasRoom : ℕ → Options → Type 0
HasRoom count options = IfSome options.map_max (λ limit. count ≤ limit)
