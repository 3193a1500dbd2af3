-- Which connections are open in a state, and which open or shut with a change ('profile'; Cilium, Network Policy: a connection
-- passes where the policy of its source and that of its target allow it).
use Rattle.std.specs.Prelude.{ℕ, not, ◌&&◌, Bool, false, List, [], ◌∷◌, map, filter, is_some, Option, None, Some}
use Rattle.std.specs.List.{flat_map}
use Rattle.pol_ports.specs.declared.Direction.{Direction}
use Rattle.pol_ports.specs.declared.Direction.TheVariants.{Ingress, Egress}
use Rattle.pol_ports.specs.declared.Proto.{Proto}
use Rattle.pol_ports.specs.declared.Proto.TheVariants.{Tcp, Udp, Sctp}
use Rattle.pol_mapkey.specs.declared.Word.{Word}
use Rattle.pol_mapkey.specs.declared.Word.TheVariants.{Allowed}
use Rattle.pol_model.specs.declared.options.Options.{Options}
use Rattle.pol_model.specs.declared.row.Endpoint.{Endpoint}
use Rattle.pol_model.specs.State.{State}
use Rattle.pol_model.specs.Verdict.{verdict_of}
use Rattle.pol_port_ranges.specs.declared.said.Halves.{Halves}
use Rattle.pol_port_ranges.specs.declared.said.Range.{Range}
use Rattle.pol_port_ranges.specs.declared.said.PortSaid.{PortSaid}
use Rattle.pol_port_ranges.specs.Ranges.{all_ports, ranges_from}
use Rattle.pol_connections.specs.declared.end.Connection.{Connection}
use Rattle.pol_connections.specs.declared.end.EndName.{EndName}
use Rattle.pol_connections.specs.Ends.{End, end_of, ends_of}
use Rattle.pol_connections.specs.Regions.{regions_of}

-- ---- halves
-- what an end's own policy says of packets to or from a number; one without a policy allows all
abbrev pub half : Options → State → Option Endpoint → Direction → ℕ → Proto → ℕ → Word
half options s None dir number proto port = Allowed
half options s (Some subject) dir number proto port = verdict_of options s subject dir number proto port

-- what the source may send to the target, and what the target may receive from the source
abbrev pub halves_of : Options → State → End → End → Proto → ℕ → Halves
halves_of options s from to proto port = record {
  sent = half options s from.subject Egress to.number proto port;
  received = half options s to.subject Ingress from.number proto port;
}

-- ---- pairs of ends
-- a connection between two ends without policies isn't asked
abbrev pub is_asked : End → End → Bool
is_asked from to = not (not (is_some from.subject) && not (is_some to.subject))

abbrev pub connection : End → End → Proto → Range → Connection
connection from to proto range = record { from = from.name; to = to.name; proto = proto; range = range }

-- the ranges of two ends, for each protocol, where so many ports are asked
abbrev pub pair_ranges : ℕ → (Proto → ℕ → PortSaid) → End → End → List Connection
pair_ranges count said from to =
    flat_map (λ proto. map (connection from to proto) (ranges_from count 0 (said proto))) (Tcp ∷ Udp ∷ Sctp ∷ [])

-- those of each pair that is asked
abbrev pub all_ranges : ℕ → (End → End → Proto → ℕ → PortSaid) → List End → List Connection
all_ranges count said ends =
    flat_map (λ from. flat_map (λ to. pair_ranges count (said from to) from to) (filter (is_asked from) ends)) ends

-- ---- one state
abbrev pub said_alone : Options → State → End → End → Proto → ℕ → PortSaid
said_alone options s from to proto port = record { before = None; after = halves_of options s from to proto port; halves = false }

-- The open connections of a state, at the ports below a number: for each pair of ends that is asked, and each protocol.
unfoldable pub connections_below : ℕ → Options → State → List Connection
connections_below count options s = all_ranges count (said_alone options s) (ends_of (regions_of s.identities s.identities) s)

abbrev pub connections_of : Options → State → List Connection
connections_of options s = connections_below all_ports options s

-- ---- a change
-- what is said of a pair in the state before, where it has both ends
abbrev pub halves_before : Options → State → Option End → Option End → Proto → ℕ → Option Halves
halves_before options s (Some from) (Some to) proto port = Some (halves_of options s from to proto port)
halves_before options s _ _ proto port = None

-- The two ends of a pair in the state before are those of the same names. It may be asked that a change is told of each half.
abbrev pub said_changed : Bool → Options → State → List End → State → End → End → Proto → ℕ → PortSaid
said_changed halves options s ends t from to proto port = record {
  before = halves_before options s (end_of from.name ends) (end_of to.name ends) proto port;
  after = halves_of options t from to proto port;
  halves = halves;
}

-- whether an end of the name is among these
abbrev pub has_end : List End → End → Bool
has_end ends end = is_some (end_of end.name ends)

-- Which connections a change from one state to another opens or shuts, at the ports below a number: of each pair of ends that
-- both states have. Where halves are told, those too of which a half has another word, though they stay open or shut.
unfoldable pub changes_below : ℕ → Bool → Options → State → State → List Connection
changes_below count halves options s t =
    let regions = regions_of s.identities t.identities in
    let before = ends_of regions s in
    all_ranges count (said_changed halves options s before t) (filter (has_end before) (ends_of regions t))

abbrev pub changes_of : Bool → Options → State → State → List Connection
changes_of halves options s t = changes_below all_ports halves options s t

-- the names of ends of the second state that the first doesn't have
unfoldable pub ends_alone : State → State → List EndName
ends_alone s t =
    let regions = regions_of s.identities t.identities in
    map (λ (end : End). end.name) (filter (λ end. not (has_end (ends_of regions s) end)) (ends_of regions t))
