-- How many references the live selectors of a cache have, by their peers.
use Rattle.std.specs.Prelude.{ℕ, ◌≡◌, ◌+◌, ◌*◌, ◌≤◌, List, count_by, find, Some}
use Rattle.std.specs.List.{sum_by}
use Rattle.std.specs.Option.{option_map_or}
use Rattle.pol_rule.specs.contracts.policy.PeerPartialEq.TheImpl as peer
use Rattle.pol_rule.specs.declared.policy.Peer.{Peer}
use Rattle.pol_selcache.specs.Held.{steps_of}
use Rattle.pol_selcache.specs.Live.{Live, number_of}

-- how many references there are to the peer's selector: none where it isn't live
abbrev pub references_of : Peer → List Live → ℕ
references_of p live = option_map_or (λ s. s.references) (find (λ s. peer.ghosts.eq p s.peer) live) 0

-- how often the peer stands among these
abbrev pub times_in : Peer → List Peer → ℕ
times_in p peers = count_by (peer.ghosts.eq p) peers

-- each peer has as many references as it stands among these
abbrev pub RefsOf : List Peer → List Live → Type 0
RefsOf peers live = (p : Peer) → references_of p live ≡ times_in p peers

-- and as many at least
abbrev pub HasRefs : List Peer → List Live → Type 0
HasRefs peers live = (p : Peer) → times_in p peers ≤ references_of p live

-- each peer has as many references more as it stands among these
abbrev pub IsMoreBy : List Peer → List Live → List Live → Type 0
IsMoreBy peers live more = (p : Peer) → references_of p more ≡ references_of p live + times_in p peers

-- each peer that has a live selector has it still, under the same number
abbrev pub KeepsNumbers : List Live → List Live → Type 0
KeepsNumbers live more = (p : Peer) (number : ℕ) → number_of p live ≡ Some number → number_of p more ≡ Some number

-- how many match steps it takes to judge each of the peers by so many rows
abbrev pub steps_to_hold : List Peer → ℕ → ℕ
steps_to_hold peers rows = sum_by (λ p. steps_of p * rows) peers
