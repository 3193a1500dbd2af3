-- The verdict that NetworkPolicies alone give, of objects and of no rule (Kubernetes, "Network Policies", The two sorts of pod
-- isolation; the modes, the local host and endpoints without labels are Cilium's, Policy Enforcement Modes).
use Rattle.std.specs.Prelude.{◌≡◌, ℕ, ◌==◌, ◌&&◌, ◌||◌, not, Bool, true, false, if◌then◌else◌, List, [], ◌∷◌, Ok}
use Rattle.std.specs.List.{list_any}
use Rattle.pol_mapkey.specs.declared.Word.{Word}
use Rattle.pol_mapkey.specs.declared.Word.TheVariants.{Allowed, DeniedByDefault}
use Rattle.pol_model.specs.State.{State}
use Rattle.pol_model.specs.Verdict.{is_ingress, is_never}
use Rattle.pol_model.specs.declared.limits.TheConstants.{HOST_IDENTITY, INIT_IDENTITY}
use Rattle.pol_model.specs.declared.options.Mode.{Mode}
use Rattle.pol_model.specs.declared.options.Mode.TheVariants.{Always, Default, Never}
use Rattle.pol_model.specs.declared.options.Options.{Options}
use Rattle.pol_model.specs.declared.row.Endpoint.{Endpoint}
use Rattle.pol_model.specs.declared.row.Stamped.{Stamped}
use Rattle.pol_netpol.specs.Meaning.{allows, isolates, selects}
use Rattle.pol_netpol.specs.Translated.{translated_of}
use Rattle.pol_netpol.specs.declared.raw.RawNetworkPolicy.{RawNetworkPolicy}
use Rattle.pol_ports.specs.declared.Direction.{Direction}
use Rattle.pol_ports.specs.declared.Proto.{Proto}

-- each policy is the translation of the object at its place
abbrev pub AreOfObjects : List RawNetworkPolicy → List Stamped → Type 0
AreOfObjects [] [] = Unit {0}
AreOfObjects (object ∷ objects) (stamped ∷ policies) = (translated_of object ≡ Ok stamped.policy) × AreOfObjects objects policies
AreOfObjects _ _ = ⊥

-- the object selects the endpoint, and isolates what it selects in this direction
abbrev pub isolates_it : Endpoint → Direction → RawNetworkPolicy → Bool
isolates_it endpoint dir object = selects object endpoint.labels && isolates object dir

-- Whether the endpoint is isolated there. In mode `always` it is, whatever selects it; in mode `default` where some object isolates
-- it, and where it has no labels yet.
abbrev pub is_isolated : Mode → List RawNetworkPolicy → Endpoint → Direction → Bool
is_isolated Always objects endpoint dir = true
is_isolated Never objects endpoint dir = false
is_isolated Default objects endpoint dir = (endpoint.identity == INIT_IDENTITY) || list_any (isolates_it endpoint dir) objects

-- it isolates the endpoint there, and allows the packet
abbrev pub lets_through : State → Endpoint → Direction → ℕ → Proto → ℕ → RawNetworkPolicy → Bool
lets_through s endpoint dir number proto port object =
    isolates_it endpoint dir object && allows object s.identities dir number proto port

-- the local host comes in, and always may
abbrev pub is_local_host : Options → Direction → ℕ → Bool
is_local_host options dir number = is_ingress dir && (number == HOST_IDENTITY) && options.localhost

-- What these objects say of a packet: it is allowed in mode `never`, where the endpoint isn't isolated there, where some object that
-- isolates it there allows the packet, and where it comes in from the local host that always may. Else it is denied by default.
abbrev pub word_of_objects : Options → State → List RawNetworkPolicy → Endpoint → Direction → ℕ → Proto → ℕ → Word
word_of_objects options s objects endpoint dir number proto port =
    if is_never s.mode
    || not (is_isolated s.mode objects endpoint dir)
    || list_any (lets_through s endpoint dir number proto port) objects
    || is_local_host options dir number
    then Allowed else DeniedByDefault
