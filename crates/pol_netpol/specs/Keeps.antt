-- What it is that a NetworkPolicy keeps its meaning.
use Rattle.std.specs.Prelude.{◌≡◌, ◌≤◌, ℕ, true, false, ◌&&◌, [], ◌∷◌, Ok}
use Rattle.pol_ports.specs.declared.Direction.{Direction}
use Rattle.pol_ports.specs.declared.Proto.{Proto}
use Rattle.pol_rule.specs.Covers.{section_of}
use Rattle.pol_rule.specs.declared.policy.Policy.{Policy}
use Rattle.pol_rule.specs.declared.policy.Rule.{Rule}
use Rattle.pol_sanitize.specs.Ports.{port_max}
use Rattle.pol_model.specs.Enforced.{allow_section, deny_section, rule_says, rule_selects}
use Rattle.pol_model.specs.Selects.{selects_number}
use Rattle.pol_model.specs.State.{State}
use Rattle.pol_model.specs.Verdict.{rule_covers}
use Rattle.pol_model.specs.declared.row.Endpoint.{Endpoint}
use Rattle.serde_json.specs.Data.{Data}
use Rattle.pol_netpol.specs.Document.{key_of, netpol_of, raw_of}
use Rattle.pol_netpol.specs.Meaning.{allows, isolates, selects}
use Rattle.pol_netpol.specs.Translated.{translated_of}
use Rattle.pol_netpol.specs.declared.raw.RawNetworkPolicy.{RawNetworkPolicy}

pub record MeansTheSame (raw : RawNetworkPolicy) (rule : Rule) : Type 0 where
  -- the rule selects the endpoint and puts the direction under default deny exactly where the object selects and isolates it
  pub enforces : (endpoint : Endpoint) (dir : Direction)
      → (rule_selects endpoint rule && rule_says dir rule) ≡ (selects raw endpoint.labels && isolates raw dir)
  -- in the object's directions it allows exactly what the object allows
  pub covers : (s : State) (dir : Direction) (number : ℕ) (proto : Proto) (port : ℕ) → port ≤ port_max → isolates raw dir ≡ true
      → rule_covers (allow_section dir) (selects_number s.identities number) proto port rule ≡ allows raw s.identities dir number proto port
  -- it has no entry in other directions, and none that denies
  pub elsewhere : (dir : Direction) → isolates raw dir ≡ false → section_of (allow_section dir) rule ≡ []
  pub denies : (dir : Direction) → section_of (deny_section dir) rule ≡ []

-- an accepted object is one rule that means the same, under the object's key
abbrev pub KeepsItsMeaning : Type 0
KeepsItsMeaning = (raw : RawNetworkPolicy) (policy : Policy) → translated_of raw ≡ Ok policy
    → (policy.key ≡ raw.key) × (rule : Rule) × (policy.rules ≡ rule ∷ []) × MeansTheSame raw rule

-- what is read of a document is one rule that means the same as the document's object, under its key
abbrev pub ReadKeepsItsMeaning : Type 0
ReadKeepsItsMeaning = (d : Data) (policy : Policy) → netpol_of d ≡ Ok policy
    → (policy.key ≡ key_of d) × (rule : Rule) × (policy.rules ≡ rule ∷ []) × MeansTheSame (raw_of d) rule
