-- States in which two faults hold, for laws that compute which is told (`faults`).
use Rattle.std.specs.Prelude.{ℕ, List, [], ◌∷◌, codes}
use Rattle.pol_addr.specs.declared.network.Prefix.{Prefix}
use Rattle.pol_model.specs.declared.options.Options.{Options}
use Rattle.pol_model.specs.declared.request.Request.{Request}
use Rattle.pol_model.specs.declared.request.Request.TheVariants.{AddEndpoint, AddIdentity, Apply}
use Rattle.pol_model.specs.declared.row.IdentityRow.{IdentityRow}
use Rattle.pol_model.specs.After.{start, state_of}
use Rattle.pol_model.specs.State.{State}
use Rattle.pol_model_laws.specs.Examples.{adds, app, host_in, lets_in, reserved, with_endpoints}

-- the state with these identities in place of its own
abbrev pub with_identities : List IdentityRow → State → State
with_identities rows s = record s { identities = rows }

-- an endpoint `a` at 10.1.0.7 and a named identity `n`, and these identities
abbrev pub one_of_each : Options → List IdentityRow → State
one_of_each options rows =
    with_identities rows (state_of options (adds (codes "a") 1 ∷ AddIdentity (codes "n") (app (codes "a")) ∷ []))

-- 256 endpoints at 10.1.0.7, and these identities
abbrev pub all_endpoints : Options → List IdentityRow → State
all_endpoints options rows = with_identities rows (with_endpoints 256 (start options))

-- a named identity of that name
abbrev pub names : List ℕ → List ℕ → Request
names name label = AddIdentity name (app label)

-- an endpoint of that name at 10.N.0.7 that has the label `reserved:host`
abbrev pub adds_host : List ℕ → ℕ → Request
adds_host name n = AddEndpoint name (reserved (codes "host")) (host_in n)

-- a policy that lets these prefixes in
abbrev pub applies : List Prefix → Request
applies prefixes = Apply (lets_in (codes "p") prefixes)
