-- What a worker does: the hints that it takes, and the jobs that it runs for them.
use Rattle.std.specs.Prelude.{◌≡◌, ℕ, List, [], ◌∷◌, ◌++◌}
use Rattle.std.specs.List.{AllByRecursion}
use mathlib.Core.List.{IsPrefix}
use Rattle.pol_hints.specs.declared.turn.Turn.TheVariants.{Taken}
use Rattle.pol_hints.specs.Passes.{Adds, IsOnly, Pass}

-- the pass made no turn, and may have seen more. Where it is the only one, there was nothing to see
pub record Waits (before after : Pass) : Type 0 where
  pub past : IsPrefix before.seen after.seen
  pub own : after.own ≡ before.own
  pub share : after.share ≡ before.share
  pub only : IsOnly before → after.seen ≡ before.seen

-- the pass took these hints, one after another, and made no other turn
abbrev pub TakesEach : List ℕ → Pass → Pass → Type 0
TakesEach [] before after = Waits before after
TakesEach (slot ∷ slots) before after = (then : Pass) × Adds (Taken slot) before then × (then.share ≡ before.share) × TakesEach slots then after

-- the worker took hints, and ran the job for each
pub record Serves (HasRun : ℕ → Type 0) (before after : Pass) : Type 0 where
  pub taken : List ℕ
  pub takes : TakesEach taken before after
  pub each : AllByRecursion HasRun taken

-- the worker took hints, and ran the job for each but the last one, for which there was no memory
pub record StopsServing (HasRun : ℕ → Type 0) (before after : Pass) : Type 0 where
  pub done : List ℕ
  pub last : ℕ
  pub takes : TakesEach (done ++ last ∷ []) before after
  pub each : AllByRecursion HasRun done
