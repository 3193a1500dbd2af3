-- What is filed where.
use Rattle.std.specs.Prelude.{ℕ, ◌≡◌, ◌==◌, Bool, false, List}
use Rattle.std.specs.List.{list_any}
use Rattle.std.specs.Map.{lookup}
use Rattle.std.specs.Option.{option_map_or}
use Rattle.pol_headings.specs.declared.heading.Heading.{Heading}
use Rattle.pol_headings.specs.Heading.{same_heading}

-- the number is one of these
abbrev pub has : ℕ → List ℕ → Bool
has number numbers = list_any (λ own. own == number) numbers

-- the numbers under each heading
abbrev pub Drawers : Type 0
Drawers = List (Heading × List ℕ)

-- the number is filed under the heading
abbrev pub is_filed : Drawers → Heading → ℕ → Bool
is_filed drawers heading number = option_map_or (has number) (lookup (same_heading heading) drawers) false

-- nothing is filed under the heading
abbrev pub IsEmptyAt : Heading → Drawers → Type 0
IsEmptyAt heading drawers = (number : ℕ) → is_filed drawers heading number ≡ false

-- the number is filed under one of these headings
abbrev pub is_filed_in : Drawers → List Heading → ℕ → Bool
is_filed_in drawers headings number = list_any (λ heading. is_filed drawers heading number) headings
