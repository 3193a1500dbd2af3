-- A repository knows nothing of the limit of maps: what is taken of it, and the moves that it tells, are those under options
-- with a limit.
use Rattle.std.proofs.Common.{zero, suc, ◌≡◌, ℕ, ◌<◌, ◌≤◌, List, [], ◌∷◌, ◌++◌, length, replicate, Option, None, Some, refl, ap, subst}
use Rattle.std.specs.List.{AllByRecursion}
use Rattle.pol_sets.specs.declared.sets.Move.{Move}
use Rattle.pol_sets.specs.declared.sets.SetRow.{SetRow}
use Rattle.pol_model.specs.State.{State}
use Rattle.pol_model.specs.declared.options.Options.{Options}
use Rattle.pol_model.specs.declared.request.Request.{Request}
use Rattle.pol_set_moves.specs.Changes.{changes_between, horizon_of, revision_before, revisions_until, state_at}
use Rattle.pol_set_moves.specs.Moves.{IsMoveOf, TellsMovesSince}
use Rattle.pol_taken.specs.OfState.{IsTakenOf}
use Rattle.pol_taken.specs.declared.taken.Taken.{Taken}

abbrev without_limit : Options → Options
without_limit options = record options { map_max = None }

module _ (options : Options) where
  pub taken_under : (s : State) (slot : ℕ) (taken : Taken) → IsTakenOf (without_limit options) s slot taken → IsTakenOf options s slot taken
  taken_under s slot taken is = record {
    revision = is.revision;
    endpoint = is.endpoint;
    filters = is.filters;
    every = is.every;
    listed = is.listed;
    apart = is.apart;
    selectors = is.selectors;
    sets = is.sets;
    addresses = is.addresses;
  }

  revisions_under : (journal : List Request) (n : ℕ) → revisions_until (without_limit options) journal n ≡ revisions_until options journal n
  revisions_under journal zero = refl
  revisions_under journal (suc revision) =
      ap (λ (later : List ℕ). replicate (changes_between (state_at options journal revision) (state_at options journal (suc revision))) (suc revision) ++ later)
      (revisions_under journal revision)

  horizon_under : (journal : List Request) → horizon_of (without_limit options) journal ≡ horizon_of options journal
  horizon_under journal = ap (λ (revisions : List ℕ). revision_before 65536 revisions) (revisions_under journal (length journal))

  moves_each : (journal : List Request) (revision : ℕ) (of : SetRow → List Move) (rows : List SetRow)
      → AllByRecursion (λ row. IsMoveOf (without_limit options) journal revision row (of row)) rows
      → AllByRecursion (λ row. IsMoveOf options journal revision row (of row)) rows
  moves_each journal revision of [] each = tt
  moves_each journal revision of (row ∷ rows) each =
      (record { listed = each.0.listed; not_listed = each.0.not_listed }, moves_each journal revision of rows each.1)

  pub moves_under : (journal : List Request) (since : Option ℕ) (rows : List SetRow) (moves : Option (List Move))
      → TellsMovesSince (without_limit options) journal since rows moves → TellsMovesSince options journal since rows moves
  moves_under journal None rows moves is = is
  moves_under journal (Some revision) rows None is = subst (λ (h : ℕ). revision < h) (horizon_under journal) is
  moves_under journal (Some revision) rows (Some moves) is =
      (subst (λ (h : ℕ). h ≤ revision) (horizon_under journal) is.0, (is.1.0, is.1.1, moves_each journal revision is.1.0 rows is.1.2))
