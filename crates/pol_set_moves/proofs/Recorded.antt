-- The log keeps the last of all changes while those of a plan are recorded, and its horizon doesn't fall.
use Rattle.std.proofs.Common.{zero, suc, ◌≡◌, ℕ, ◌≤◌, List, [], ◌∷◌, ◌++◌, fold, length, map, replicate, slice_get, Option, Some, None, refl, sym, ap, ◌∙◌, arith}
use Rattle.std.specs.Prelude.{option_map}
use Rattle.std.specs.Option.{option_map_or}
use Rattle.std.proofs.lemmas.Option.{slice_get-map}
use Rattle.pol_set_changes.specs.declared.change.SetChange.{SetChange}
use Rattle.pol_set_changes.specs.Log.{Log, newest, recorded}
use Rattle.pol_set_changes.specs.Log.{IsSound as IsLog}
use Rattle.pol_set_changes.specs.Recorded.{KeepsLast, horizon_of as horizon_of_changes}
use Rattle.pol_set_changes.proofs.LogLemmas.{logs_keep_last, recorded_sound}
use Rattle.pol_selcache.specs.Cache.{all_recorded, change_at}
use Rattle.pol_selcache.specs.Plan.{Plan, Planned}
use Rattle.pol_selcache.proofs.Retold.{horizon_rises as rises_with}
use Rattle.pol_set_moves.specs.Changes.{revision_before}

-- all changes, and those of a plan in front of them
abbrev pub all_with : ℕ → List Planned → List SetChange → List SetChange
all_with revision changes all = fold (λ all change. change_at revision change ∷ all) all changes

keeps_each : (revision : ℕ) (changes : List Planned) (log : Log) (all : List SetChange) → KeepsLast log all
    → KeepsLast (fold (λ log change. recorded log (change_at revision change)) log changes) (all_with revision changes all)
keeps_each revision [] log all keeps = keeps
keeps_each revision (c ∷ changes) log all keeps =
    keeps_each revision changes (recorded log (change_at revision c)) (change_at revision c ∷ all) (logs_keep_last.next log all (change_at revision c) keeps)

pub keeps_all : (plan : Plan) (log : Log) (all : List SetChange) → KeepsLast log all → KeepsLast (all_recorded plan log) (all_with plan.revision plan.changes all)
keeps_all plan log all keeps = keeps_each plan.revision plan.changes log all keeps

-- ---- their revisions
shifted : (n x : ℕ) (xs : List ℕ) → replicate n x ++ x ∷ xs ≡ replicate (suc n) x ++ xs
shifted zero x xs = refl
shifted (suc n) x xs = ap (λ ys. x ∷ ys) (shifted n x xs)

pub revisions_with : (revision : ℕ) (changes : List Planned) (all : List SetChange)
    → map (λ (c : SetChange). c.revision) (all_with revision changes all) ≡ replicate (length changes) revision ++ map (λ (c : SetChange). c.revision) all
revisions_with revision [] all = refl
revisions_with revision (c ∷ changes) all =
    revisions_with revision changes (change_at revision c ∷ all) ∙ shifted (length changes) revision (map (λ (c : SetChange). c.revision) all)

-- the horizon is told by them
pub horizon_by_revisions : (all : List SetChange) → horizon_of_changes all ≡ revision_before 65536 (map (λ (c : SetChange). c.revision) all)
horizon_by_revisions all = by (slice_get all 65536) ∙ ap (λ (o : Option ℕ). option_map_or (λ n. n) o 0) (sym (slice_get-map (λ (c : SetChange). c.revision) all 65536))
  where
    by : (o : Option SetChange) → option_map_or (λ (c : SetChange). c.revision) o 0 ≡ option_map_or (λ n. n) (option_map (λ (c : SetChange). c.revision) o) 0
    by None = refl
    by (Some c) = refl

-- ---- the horizon
rises_each : (revision : ℕ) (changes : List Planned) (log : Log) → IsLog log → newest log ≤ revision
    → log.horizon ≤ (fold (λ log change. recorded log (change_at revision change)) log changes).horizon
rises_each revision [] log sound before = omega arith
rises_each revision (c ∷ changes) log sound before =
    let one : log.horizon ≤ (recorded log (change_at revision c)).horizon = rises_with log (change_at revision c) 65535 sound in
    let others = rises_each revision changes (recorded log (change_at revision c)) (recorded_sound log (change_at revision c) sound before) (omega arith) in
    omega (arith, one, others)

pub horizon_rises : (plan : Plan) (log : Log) → IsLog log → newest log ≤ plan.revision → log.horizon ≤ (all_recorded plan log).horizon
horizon_rises plan log sound before = rises_each plan.revision plan.changes log sound before
