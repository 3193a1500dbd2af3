-- The share that each pass of a queue has. A pass that is split leaves half of its share to the other; one that is joined has both.
use Rattle.std.specs.Prelude.{◌≡◌, ℕ, ◌≤◌, ◌+◌, ◌*◌, List, [], ◌∷◌}
use Rattle.pol_hints.specs.declared.standing.Share.{Share}
use Rattle.pol_hints.specs.declared.standing.Standing.{Standing}

abbrev pub share : ℕ → ℕ → Share
share part of = record { part = part; of = of }

abbrev pub whole_share : Share
whole_share = share 1 1

abbrev pub no_share : Share
no_share = share 0 1

abbrev pub half : Share → Share
half s = share s.part (2 * s.of)

abbrev pub together : Share → Share → Share
together s t = share (s.part * t.of + t.part * s.of) (s.of * t.of)

-- the two are as much
abbrev pub IsSame : Share → Share → Type 0
IsSame s t = s.part * t.of ≡ t.part * s.of

-- it is all of the whole
abbrev pub IsAll : Share → Type 0
IsAll s = s.part ≡ s.of

-- it is more than nothing
pub record IsPart (s : Share) : Type 0 where
  pub part : 1 ≤ s.part
  pub of : 1 ≤ s.of

-- where the whole is so many units, the share is so many
pub record Measures (whole units : ℕ) (s : Share) : Type 0 where
  pub of : 1 ≤ s.of
  pub is : units * s.of ≡ s.part * whole

-- the shares of all passes come to so many units
abbrev pub ComeTo : ℕ → ℕ → List Standing → Type 0
ComeTo whole units [] = units ≡ 0
ComeTo whole units (v ∷ views) = (mine : ℕ) × (rest : ℕ) × Measures whole mine v.share × (units ≡ mine + rest) × ComeTo whole rest views

-- the shares of all passes come to the whole at most
pub record AreShares (views : List Standing) : Type 0 where
  pub whole : ℕ
  pub units : ℕ
  pub least : 1 ≤ whole
  pub few : units ≤ whole
  pub come : ComeTo whole units views
