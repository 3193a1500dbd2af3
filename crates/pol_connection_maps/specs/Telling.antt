-- What is told of the connections between ends, whatever an end is, and ends of which the same is told.
use Rattle.std.specs.Prelude.{ℕ, ◌≡◌, ◌++◌, Bool, List, [], ◌∷◌, map, filter, slice_get, Some, if◌then◌else◌}
use Rattle.std.specs.List.{AllByRecursion, flat_map}
use Rattle.pol_ports.specs.declared.Proto.{Proto}
use Rattle.pol_ports.specs.declared.Proto.TheVariants.{Tcp, Udp, Sctp}
use Rattle.pol_port_ranges.specs.declared.said.PortSaid.{PortSaid}
use Rattle.pol_port_ranges.specs.Ranges.{ranges}
use Rattle.pol_connections.specs.declared.end.Connection.{Connection}
use Rattle.pol_connections.specs.declared.end.EndName.{EndName}
use Rattle.pol_connection_maps.specs.declared.told.ProtoRange.{ProtoRange}
use Rattle.pol_connection_maps.specs.Lists.{pair_list}
use Rattle.pol_connection_maps.specs.Seen.{Kept, Seen, kept_asked, seen_alone, seen_asked, seen_changed}

-- who an end is, which connections are asked, and what is said of the ports of each
pub record Telling (E : Type 0) : Type 0 where
  pub name : E → EndName
  pub asked : E → E → Bool
  pub said : E → E → Proto → ℕ → PortSaid

abbrev pub telling_alone : Telling Seen
telling_alone = record { name = λ end. end.name; asked = seen_asked; said = seen_alone }

abbrev pub telling_changed : Telling Kept
telling_changed = record { name = λ end. end.after.name; asked = kept_asked; said = seen_changed }

-- ---- a pair
abbrev pub proto_ports : (Proto → ℕ → PortSaid) → Proto → List ProtoRange
proto_ports said proto = map (λ range. record { proto = proto; range = range }) (ranges (said proto))

abbrev pub pair_ports : (Proto → ℕ → PortSaid) → List ProtoRange
pair_ports said = flat_map (proto_ports said) (Tcp ∷ Udp ∷ Sctp ∷ [])

-- a connection, but for where it comes from
pub record Reached : Type 0 where
  pub to : EndName
  pub ports : ProtoRange

abbrev pub reached : EndName → ProtoRange → Reached
reached to ports = record { to = to; ports = ports }

abbrev pub connection_to : EndName → Reached → Connection
connection_to from target = record { from = from; to = target.to; proto = target.ports.proto; range = target.ports.range }

-- the ranges of ports on which something is told of a connection
abbrev pub ports_between : {E : Type 0} → Telling E → E → E → List ProtoRange
ports_between t from to = if t.asked from to then pair_ports (t.said from to) else []

abbrev pub targets_at : {E : Type 0} → Telling E → E → E → List Reached
targets_at t from to = map (reached (t.name to)) (ports_between t from to)

abbrev pub targets : {E : Type 0} → Telling E → List E → E → List Reached
targets t ends from = flat_map (targets_at t from) ends

-- ---- the list
abbrev pub told_from : {E : Type 0} → Telling E → List E → E → List Connection
told_from t ends from = flat_map (λ to. pair_list (t.said from to) (t.name from) (t.name to)) (filter (t.asked from) ends)

abbrev pub told_list : {E : Type 0} → Telling E → List E → List Connection
told_list t ends = flat_map (told_from t ends) ends

-- ---- kinds
-- whatever is told of connections of the one is told of those of the other
pub record AreAlike {E : Type 0} (t : Telling E) (one other : E) : Type 0 where
  pub from : (end : E) → ports_between t one end ≡ ports_between t other end
  pub to : (end : E) → ports_between t end one ≡ ports_between t end other

-- at that place among the first ends of the kinds is one that is alike
pub record IsOfKind {E : Type 0} (t : Telling E) (firsts : List E) (end : E) (kind : ℕ) : Type 0 where
  pub first : E
  pub at : slice_get firsts kind ≡ Some first
  pub alike : AreAlike t first end

-- a kind was found, or begins with the end
pub record FindsKind {E : Type 0} (t : Telling E) (stands : E → Type 0) (old new : List E) (end : E) (kind : ℕ) : Type 0 where
  pub more : List E
  pub grown : new ≡ old ++ more
  pub found : IsOfKind t new end kind
  pub stand : AllByRecursion stands new

-- each of the ends has the place of its kind
abbrev pub AreOfKinds : {E : Type 0} → Telling E → List E → List (E × ℕ) → Type 0
AreOfKinds t firsts ends = AllByRecursion (λ one. IsOfKind t firsts one.0 one.1) ends

abbrev pub ends_in : {E : Type 0} → List (E × ℕ) → List E
ends_in ends = map (λ one. one.0) ends
