-- The calls of an opening, one after another.
use Rattle.std.proofs.Common.{◌≡◌, ℕ, suc, ◌+◌, nat_le, Bool, false, if◌then◌else◌, inl, inr, List, [], ◌∷◌, length, take, sym, subst}
use Rattle.pol_disk.specs.Calls.{Asked, Reads, Cuts, Syncs, Runs, StopsIn}
use Rattle.pol_kept.specs.Calls.{FailsToOpen, calls_of_synced}
use Rattle.pol_kept.specs.declared.error.OpenError.{OpenError}
use Rattle.pol_kept.specs.declared.error.OpenError.TheVariants as opened
use Rattle.pol_record_log.specs.Log.{last_gate}
use Rattle.pol_record_log.specs.Steps.{calls_of_start}

module _ {D : Type 0} (does fails : D → Asked → D → Type 0) where
  -- a call that did what it should, before those that did
  pub runs_behind : (call : Asked) (calls : List Asked) (old between new : D) → Runs does fails old (call ∷ []) between
      → Runs does fails between calls new → Runs does fails old (call ∷ calls) new
  runs_behind call calls old between new first others =
      (first.0, first.1, subst (λ (d : D). Runs does fails d calls new) first.2 others)

  -- a call that did what it should, before those of an opening that failed
  pub fails_behind : (call : Asked) (reading all : List Asked) (why : OpenError) (old between new : D)
      → Runs does fails old (call ∷ []) between → FailsToOpen does fails reading all between why new
      → FailsToOpen does fails (call ∷ reading) (call ∷ all) old why new
  fails_behind call reading all (opened.Damaged at) old between new first others =
      runs_behind call reading old between new first others
  fails_behind call reading all opened.Disk old between new first others =
      inr (first.0, first.1, subst (λ (d : D). StopsIn does fails d all new) first.2 others)
  fails_behind call reading all opened.Memory old between new first others =
      (suc others.0, runs_behind call (take others.0 reading) old between new first others.1)

  -- the first call failed, and no other was made
  pub fails_at_once : (call : Asked) (calls : List Asked) (old new : D) → StopsIn does fails old (call ∷ []) new → StopsIn does fails old (call ∷ calls) new
  fails_at_once call calls old new (inl failed) = inl failed
  fails_at_once call calls old new (inr others) = absurd others.2

  -- where there is more than one byte, those that are read, cut and synced are the calls
  pub fails_long : (reading : List Asked) (bytes : List ℕ) (why : OpenError) (old new : D) → nat_le (length bytes) 1 ≡ false
      → FailsToOpen does fails reading (Reads 0 (length bytes) ∷ Cuts (last_gate bytes + 1) ∷ Syncs ∷ []) old why new
      → FailsToOpen does fails reading (calls_of_synced bytes) old why new
  fails_long reading bytes (opened.Damaged at) old new long made = made
  fails_long reading bytes opened.Disk old new long made =
      subst (λ (b : Bool). StopsIn does fails old (if b then calls_of_start else (Reads 0 (length bytes) ∷ Cuts (last_gate bytes + 1) ∷ Syncs ∷ [])) new)
      (sym long) made
  fails_long reading bytes opened.Memory old new long made = made
