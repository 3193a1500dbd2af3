-- The two parts of a text of tables, before and behind its divider.
use Rattle.std.specs.Prelude.{ℕ, ◌<◌, ◌≤◌, ◌^◌, ◌==◌, ◌&&◌, nat_eq, Bool, true, if◌then◌else◌, List, [], ◌∷◌, count_by, drop, length, codes, Option, None, Some}
use Rattle.std.specs.List.{starts_with}

-- the line that stands between two tables
abbrev pub divider : List ℕ
divider = codes "--\n"

-- what stands before the divider, and what stands behind it, if there is one
pub record Parts : Type 0 where
  pub front : List ℕ
  pub back : Option (List ℕ)

-- the parts with a byte more in front
abbrev pub with_byte : ℕ → Parts → Parts
with_byte byte parts = record { front = byte ∷ parts.front; back = parts.back }

-- the parts of bytes, of which the first begins a line or doesn't
abbrev pub parts_from : Bool → List ℕ → Parts
parts_from begins [] = record { front = []; back = None }
parts_from begins (byte ∷ bytes) =
    if begins && starts_with nat_eq (byte ∷ bytes) divider then record { front = []; back = Some (drop 2 bytes) }
    else with_byte byte (parts_from (byte == 10) bytes)

-- The parts of a text: the divider is its first line that is `--` and ends with a newline byte ('profile').
abbrev pub parts_of : List ℕ → Parts
parts_of text = parts_from true text

-- few enough bytes and lines to be compared
pub record IsFew (text : List ℕ) : Type 0 where
  pub short : length text < 2 ^ 32
  pub few : count_by (λ byte. byte == 10) text ≤ 1000000
