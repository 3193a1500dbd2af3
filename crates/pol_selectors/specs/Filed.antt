-- What the table of selectors keeps, and how their numbers are filed. No public clause cites this module, but for
-- `stands_in`.
use Rattle.std.specs.Prelude.{ℕ, ◌≡◌, ◌==◌, ◌&&◌, ◌||◌, not, Bool, List}
use Rattle.std.specs.List.{list_any}
use Rattle.std.specs.Map.{lookup}
use Rattle.pol_headings.specs.declared.heading.Heading.{Heading}
use Rattle.pol_headings.specs.Filed.{Drawers, is_filed}
use Rattle.pol_headings.specs.Heading.{heading_of, same_heading}
use Rattle.pol_model.specs.Ascending.{Ascends}
use Rattle.pol_rule.specs.contracts.policy.PeerPartialEq.TheImpl as peers
use Rattle.pol_rule.specs.declared.policy.Peer.{Peer}
use Rattle.pol_selectors.specs.declared.spots.Spot.{Spot}
use Rattle.pol_selectors.specs.Inside.{live_in, spot_numbers}
use Rattle.pol_selectors.specs.Live.{Live, AreLive, number_of}

-- the selector has this number, and its peer this heading
abbrev pub stands_under : Heading → ℕ → Live → Bool
stands_under heading number s = same_heading (heading_of s.peer) heading && (s.number == number)

-- each selector's number is filed under its peer's heading, and nothing else is
abbrev pub IsFiled : Drawers → List Live → Type 0
IsFiled drawers live = (heading : Heading) (number : ℕ) → is_filed drawers heading number ≡ list_any (stands_under heading number) live

-- each peer has the number of its live selector, and no other peer has one
abbrev pub AreKnown : List (Peer × ℕ) → List Live → Type 0
AreKnown known live = (p : Peer) → lookup (peers.ghosts.eq p) known ≡ number_of p live

-- what every table keeps
pub record IsTable (known : List (Peer × ℕ)) (spots : List Spot) (drawers : Drawers) : Type 0 where
  pub ascend : Ascends (spot_numbers spots)
  pub live : AreLive (live_in spots)
  pub known_by_peer : AreKnown known (live_in spots)
  pub filed : IsFiled drawers (live_in spots)

-- the number was filed under the heading
abbrev pub IsFiledToo : Heading → ℕ → Drawers → Drawers → Type 0
IsFiledToo heading number old new =
    (other : Heading) (n : ℕ) → is_filed new other n ≡ (is_filed old other n || (same_heading heading other && (number == n)))

-- the same is filed
abbrev pub AreAlike : Drawers → Drawers → Type 0
AreAlike old new = (other : Heading) (n : ℕ) → is_filed new other n ≡ is_filed old other n

-- the number was taken from under the heading
abbrev pub IsUnfiled : Heading → ℕ → Drawers → Drawers → Type 0
IsUnfiled heading number old new =
    (other : Heading) (n : ℕ) → is_filed new other n ≡ (is_filed old other n && not (same_heading heading other && (number == n)))

-- the number is that of a selector under one of these headings
abbrev pub stands_in : List Heading → ℕ → List Live → Bool
stands_in headings number live = list_any (λ heading. list_any (stands_under heading number) live) headings
