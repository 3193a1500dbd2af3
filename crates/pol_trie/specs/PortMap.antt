-- The keys of one direction, identity and protocol as a finite map, from port prefixes to kinds.
use Rattle.std.specs.Prelude.{◌≡◌, ℕ, ◌≤◌, Bool, true, false, Option, Some, IsSome, MatchOption, refl}
use Rattle.std.specs.Coded.{Coded, code_by, coded×, coded_ℕ, coded_bool}
use Rattle.std.specs.FinMap.{FinMap, code}
use Rattle.std.proofs.Common.{ap}
use base.Stored.{coded_via}
use Rattle.pol_ports.specs.declared.PortPrefix.{PortPrefix}
use Rattle.pol_ports.specs.PortPrefix.{prefix_cmp, prefix_holds}
use Rattle.pol_ports.proofs.Blocks.{prefix_same}
use Rattle.pol_mapkey.specs.declared.Kind.{Kind}
use Rattle.pol_mapkey.specs.declared.Kind.TheVariants.{Allow, Deny}
use Rattle.pol_mapkey.specs.Entries.{is_deny}

-- from port prefixes to kinds
abbrev pub PortMap : Type 0
PortMap = FinMap prefix_cmp Kind

-- the kind of the longest of these prefixes that has the port
pub record IsLongestOf (at : PortPrefix → Option Kind) (port : ℕ) (kind : Kind) : Type 0 where
  pub prefix : PortPrefix
  pub found : at prefix ≡ Some kind
  pub holds : prefix_holds prefix port ≡ true
  pub longest : (p : PortPrefix) → IsSome (at p) → prefix_holds p port ≡ true → p.len ≤ prefix.len

-- none of these prefixes has the port
abbrev pub NoneHolds : (PortPrefix → Option Kind) → ℕ → Type 0
NoneHolds at port = (p : PortPrefix) → IsSome (at p) → prefix_holds p port ≡ true → ⊥

-- the kind of the longest of these prefixes that has the port, if one has it
abbrev pub Decides : (PortPrefix → Option Kind) → ℕ → Option Kind → Type 0
Decides at port found = MatchOption found (NoneHolds at port) (IsLongestOf at port)

-- a prefix is stored as the pair of its bits and its length
abbrev pub port_code : Coded PortPrefix
port_code =
    coded_via (coded× coded_ℕ coded_ℕ) (λ (p : PortPrefix). (p.bits, p.len)) (λ p q same. prefix_same p q (ap (λ x. x.0) same) (ap (λ x. x.1) same))

abbrev pub kind_of_deny : Bool → Kind
kind_of_deny true = Deny
kind_of_deny false = Allow

pub kind_of_deny-is_deny : (kind : Kind) → kind_of_deny (is_deny kind) ≡ kind
kind_of_deny-is_deny Allow = refl
kind_of_deny-is_deny Deny = refl

-- a kind is stored as whether it is a deny
abbrev pub kind_code : Coded Kind
kind_code = code_by Bool coded_bool is_deny kind_of_deny kind_of_deny-is_deny

-- a map is stored as the list of its entries
abbrev pub port_map_code : Coded PortMap
port_map_code = code port_code kind_code
