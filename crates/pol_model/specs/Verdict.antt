-- The verdict on one packet, by a scan of all rules (Cilium, Policy Enforcement Modes, and Network Policy,
-- "Deny Policies"). It has no tables, no keys and no filters.
use Rattle.std.specs.Prelude.{ℕ, ◌==◌, ◌&&◌, ◌||◌, not, Bool, true, false, if◌then◌else◌, List}
use Rattle.std.specs.List.{list_any}
use Rattle.pol_ports.specs.declared.Direction.{Direction}
use Rattle.pol_ports.specs.declared.Direction.TheVariants.{Ingress, Egress}
use Rattle.pol_ports.specs.declared.Proto.{Proto}
use Rattle.pol_mapkey.specs.declared.Word.{Word}
use Rattle.pol_mapkey.specs.declared.Word.TheVariants.{Allowed, DeniedByRule, DeniedByDefault}
use Rattle.pol_rule.specs.Covers.{section_of, entry_covers}
use Rattle.pol_rule.specs.declared.policy.Peer.{Peer}
use Rattle.pol_rule.specs.declared.policy.Rule.{Rule}
use Rattle.pol_rule.specs.declared.policy.Section.{Section}
use Rattle.pol_model.specs.declared.limits.TheConstants.{HOST_IDENTITY}
use Rattle.pol_model.specs.declared.options.Mode.{Mode}
use Rattle.pol_model.specs.declared.options.Mode.TheVariants.{Default, Always, Never}
use Rattle.pol_model.specs.declared.options.Options.{Options}
use Rattle.pol_model.specs.declared.row.Endpoint.{Endpoint}
use Rattle.pol_model.specs.declared.row.IdentityRow.{IdentityRow}
use Rattle.pol_model.specs.declared.row.Stamped.{Stamped}
use Rattle.pol_model.specs.State.{State}
use Rattle.pol_model.specs.Selects.{selects_number}
use Rattle.pol_model.specs.Enforced.{allow_section, deny_section, has_rule, enforced}

-- the other side of a packet: which peers take it, and whether it is the local host
pub record Side : Type 0 where
  pub takes : Peer → Bool
  pub is_host : Bool

-- some entry of that section of the rule covers the packet
unfoldable pub rule_covers : Section → (Peer → Bool) → Proto → ℕ → Rule → Bool
rule_covers section takes proto port rule = list_any (entry_covers takes proto port) (section_of section rule)

-- some entry of that section of a rule that selects the endpoint covers the packet
abbrev pub some_covers : List Stamped → Endpoint → Section → (Peer → Bool) → Proto → ℕ → Bool
some_covers policies endpoint section takes proto port =
    list_any (has_rule (rule_covers section takes proto port) endpoint) policies

abbrev pub is_never : Mode → Bool
is_never Default = false
is_never Always = false
is_never Never = true

abbrev pub is_ingress : Direction → Bool
is_ingress Ingress = true
is_ingress Egress = false

-- In mode `never` all is allowed. Else a deny wins over every allow; and what no entry covers is
-- allowed where the direction isn't enforced, or where the local host comes in and always may.
abbrev pub verdict_on : Options → State → Endpoint → Direction → Side → Proto → ℕ → Word
verdict_on options s endpoint dir side proto port =
    if is_never s.mode then Allowed
    else (if some_covers s.policies endpoint (deny_section dir) side.takes proto port then DeniedByRule
    else (if some_covers s.policies endpoint (allow_section dir) side.takes proto port || not (enforced s.mode s.policies endpoint dir) || (is_ingress dir && side.is_host && options.localhost) then Allowed
    else DeniedByDefault))

-- an identity number, allocated or not
abbrev pub numbered_side : List IdentityRow → ℕ → Side
numbered_side rows number = record { takes = selects_number rows number; is_host = number == HOST_IDENTITY }

-- the verdict on a packet from or to an identity number
abbrev pub verdict_of : Options → State → Endpoint → Direction → ℕ → Proto → ℕ → Word
verdict_of options s endpoint dir number proto port = verdict_on options s endpoint dir (numbered_side s.identities number) proto port
