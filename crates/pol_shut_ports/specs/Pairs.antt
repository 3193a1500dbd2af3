-- What is said of a connection by what its two ends shut.
use Rattle.std.specs.Prelude.{ℕ, ◌+◌, nat_lt, Bool, false, List, [], ◌∷◌, None, Some, if◌then◌else◌}
use Rattle.pol_audit.specs.declared.difference.Difference.{Difference}
use Rattle.pol_port_ranges.specs.declared.said.Halves.{Halves}
use Rattle.pol_port_ranges.specs.declared.said.PortSaid.{PortSaid}
use Rattle.pol_shut_ports.specs.Shut.{word_in}

abbrev pub halves_at : List Difference → List Difference → ℕ → Halves
halves_at sent received port = record { sent = word_in sent port; received = word_in received port }

-- in a state alone
abbrev pub open_at : List Difference → List Difference → ℕ → PortSaid
open_at sent received port = record { before = None; after = halves_at sent received port; halves = false }

-- before and after a change, of which it may be asked that each half is told
abbrev pub changed_at : Bool → List Difference → List Difference → List Difference → List Difference → ℕ → PortSaid
changed_at halves sent_before received_before sent received port = record {
  before = Some (halves_at sent_before received_before port);
  after = halves_at sent received port;
  halves = halves;
}

-- the ports where a range begins and has just ended
abbrev pub ends_of : Difference → List ℕ
ends_of d = d.first ∷ (if nat_lt d.last 65535 then (d.last + 1) ∷ [] else [])
