-- How the spots of selectors are seen. No public clause cites this module, but for `live_of`.
use Rattle.std.specs.Prelude.{ℕ, ◌≡◌, ◌<◌, ◌≤◌, ◌==◌, ◌&&◌, Bool, is_some, List, map, take, drop, Option, Some, option_map, slice_get, slice_set}
use Rattle.std.specs.Arc.{arc_value}
use Rattle.std.specs.List.{AllByRecursion, filter_map}
use Rattle.pol_selectors.specs.declared.spots.Row.{Row}
use Rattle.pol_selectors.specs.declared.spots.Spot.{Spot}
use Rattle.pol_selectors.specs.Live.{Live}

-- the live selector of a number, with what is kept of it
abbrev pub live_of : ℕ → Row → Live
live_of number row = record { number = number; peer = row.peer; references = row.references; set = arc_value row.set }

-- the live selector of a spot
abbrev pub live_at : Spot → Option Live
live_at spot = option_map (live_of spot.number) spot.row

-- the spot is the number's, and its selector is live
abbrev pub holds_at : ℕ → Spot → Bool
holds_at number spot = (spot.number == number) && is_some spot.row

-- those of all spots
abbrev pub live_in : List Spot → List Live
live_in spots = filter_map live_at spots

abbrev pub spot_numbers : List Spot → List ℕ
spot_numbers spots = map (λ spot. spot.number) spots

-- the spot of the number stands at the place
pub record IsSpotOf (number : ℕ) (spots : List Spot) (place : ℕ) : Type 0 where
  pub spot : Spot
  pub at : slice_get spots place ≡ Some spot
  pub its : spot.number ≡ number

-- and its selector is live
pub record IsLiveAt (number : ℕ) (spots : List Spot) (place : ℕ) : Type 0 where
  pub spot : Spot
  pub row : Row
  pub at : slice_get spots place ≡ Some spot
  pub its : spot.number ≡ number
  pub live : spot.row ≡ Some row

-- and has one reference alone
pub record IsLastAt (number : ℕ) (spots : List Spot) (place : ℕ) : Type 0 where
  pub there : IsLiveAt number spots place
  pub last : there.row.references ≡ 1

-- the spots before the place have lower numbers, and the others don't
pub record IsFrom (number : ℕ) (spots : List Spot) (place : ℕ) : Type 0 where
  pub below : AllByRecursion (λ n. n < number) (spot_numbers (take place spots))
  pub rest : AllByRecursion (λ n. number ≤ n) (spot_numbers (drop place spots))

-- another row, or none, stands at the place, under the number that is there
pub record IsPutAt (place : ℕ) (there : Option Live) (old new : List Spot) : Type 0 where
  pub spot : Spot
  pub put : Spot
  pub at : slice_get old place ≡ Some spot
  pub is : new ≡ slice_set old place put
  pub number : put.number ≡ spot.number
  pub live : live_at put ≡ there
