-- Which calls of a disk lead from one state of it to another.
use Rattle.std.specs.Prelude.{◌≡◌, ◌⊎◌, ℕ, List, [], ◌∷◌, Result, Ok, Err}

-- what is asked of a disk: so many bytes from a place on, these bytes at a place, a length, or that all is on the disk
pub data Asked : Type 0 where
  Reads : ℕ → ℕ → Asked
  Writes : ℕ → List ℕ → Asked
  Cuts : ℕ → Asked
  Syncs : Asked

module _ {D : Type 0} (does fails : D → Asked → D → Type 0) where
  -- these calls were made in this order, and no other, and each did what it should
  abbrev pub Runs : D → List Asked → D → Type 0
  Runs old [] new = new ≡ old
  Runs old (call ∷ calls) new = (between : D) × does old call between × Runs between calls new

  -- of these calls those up to one that failed were made in this order, and no other
  abbrev pub StopsIn : D → List Asked → D → Type 0
  StopsIn old [] new = ⊥
  StopsIn old (call ∷ calls) new = fails old call new ⊎ ((between : D) × does old call between × StopsIn between calls new)

  -- all of these calls were made where the answer is Ok, and those up to one that failed where it isn't
  abbrev pub Makes : {V E : Type 0} → List Asked → D → Result V E → D → Type 0
  Makes calls old (Ok value) new = Runs old calls new
  Makes calls old (Err error) new = StopsIn old calls new
