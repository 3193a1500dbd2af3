-- The moves that the log tells are those of the journal.
use Rattle.std.proofs.Common.{◌≡◌, ℕ, ◌<◌, ◌≤◌, nat_lt, Bool, true, false, cond, List, [], ◌∷◌, filter, length, slice_get, Option, Some, None, refl, sym, ap, ◌∙◌, subst, arith}
use Rattle.std.specs.Prelude.{IfSome, slice_index_or}
use Rattle.std.specs.List.{AllByRecursion, cons_option, flat_map}
use Rattle.std.proofs.lemmas.Bool.{cond-false, le-ltb, ltb-false, ltb-true}
use Rattle.std.proofs.lemmas.Option.{same_Some, slice_get-get_or}
use Rattle.pol_sets.specs.declared.sets.Move.{Move}
use Rattle.pol_sets.specs.declared.sets.SetRow.{SetRow}
use Rattle.pol_model.specs.declared.options.Options.{Options}
use Rattle.pol_model.specs.declared.request.Request.{Request}
use Rattle.pol_set_changes.specs.Log.{Log, is_later_of, since}
use Rattle.pol_set_changes.specs.Net.{net}
use Rattle.pol_selcache.specs.Cache.{Cache}
use Rattle.pol_selcache.specs.Live.{number_of}
use Rattle.pol_set_moves.specs.Chained.{IsChained}
use Rattle.pol_set_moves.specs.Changes.{horizon_of}
use Rattle.pol_set_moves.specs.Moves.{AreMovesOf, IsMoveOf, TellsMoves, TellsMovesSince, move_since, moves_by, moves_of}
use Rattle.pol_set_moves.proofs.Chains.{chain_horizon, chain_moves}

-- a move is of the selector that it is asked of
selector_told : (log : Log) (selector revision : ℕ) (m : Move) → log.horizon ≤ revision → since log selector revision ≡ Some m → m.selector ≡ selector
selector_told log selector revision m kept is =
    let told : Move = net selector (filter (is_later_of selector revision) log.kept) in
    ap (λ (x : Move). x.selector) (sym (same_Some told m (sym (cond-false (nat_lt revision log.horizon) None (Some told) (le-ltb revision log.horizon kept)) ∙ is)))

module _ (options : Options) (journal : List Request) (nexts : List ℕ) (cache : Cache) (chained : IsChained options journal nexts cache)
    (revision next : ℕ) (within : revision ≤ length journal) (at : slice_get nexts revision ≡ Some next) where
  row_moves : cache.log.horizon ≤ revision → (row : SetRow) → number_of row.peer cache.live ≡ Some row.selector → IsMoveOf options journal revision row (move_since cache.log next revision row.selector)
  row_moves kept row is = by (nat_lt row.selector next) refl
    where
      since_then : Option Move
      since_then = since cache.log row.selector revision

      by : (b : Bool) → nat_lt row.selector next ≡ b → IsMoveOf options journal revision row (cond b (cons_option since_then []) [])
      by true below = record {
        listed = λ listed.
            let told = chain_moves options journal nexts cache chained revision within kept row.peer row.selector is listed in
            (told.0, ap (λ o. cons_option o []) told.1, selector_told cache.log row.selector revision told.0 kept told.1, told.2);
        not_listed = λ never. absurd (never ((chained.listed revision next at row.peer row.selector is).0 (ltb-true row.selector next below)));
      }
      by false above = record {
        listed = λ listed. absurd (
            let less = (chained.listed revision next at row.peer row.selector is).1 listed in
            let more = ltb-false row.selector next above in
            omega (arith, less, more));
        not_listed = λ never. refl;
      }

  all_moves : cache.log.horizon ≤ revision → (rows : List SetRow) → AllByRecursion (λ row. number_of row.peer cache.live ≡ Some row.selector) rows
      → AllByRecursion (λ row. IsMoveOf options journal revision row (move_since cache.log next revision row.selector)) rows
  all_moves kept [] are = tt
  all_moves kept (row ∷ rows) are = (row_moves kept row are.0, all_moves kept rows are.1)

  pub moves_told : (rows : List SetRow) → AllByRecursion (λ row. number_of row.peer cache.live ≡ Some row.selector) rows → TellsMoves options journal revision rows (moves_of cache.log next revision rows)
  moves_told rows are = by (nat_lt revision cache.log.horizon) refl
    where
      same : cache.log.horizon ≡ horizon_of options journal
      same = chain_horizon options journal nexts cache chained

      of : SetRow → List Move
      of row = move_since cache.log next revision row.selector

      by : (b : Bool) → nat_lt revision cache.log.horizon ≡ b → TellsMoves options journal revision rows (cond b None (Some (flat_map of rows)))
      by true below = subst (λ h. revision < h) same (ltb-true revision cache.log.horizon below)
      by false above =
          let kept : cache.log.horizon ≤ revision = ltb-false revision cache.log.horizon above in
          let each : AreMovesOf options journal revision rows (flat_map of rows) = (of, refl, all_moves kept rows are) in
          (subst (λ h. h ≤ revision) same kept, each)

-- by the next numbers of all revisions
pub moves_told_since : (options : Options) (journal : List Request) (nexts : List ℕ) (cache : Cache) → IsChained options journal nexts cache
    → (known : Option ℕ) → IfSome known (λ revision. revision ≤ length journal) → (rows : List SetRow) → AllByRecursion (λ row. number_of row.peer cache.live ≡ Some row.selector) rows
    → TellsMovesSince options journal known rows (moves_by cache.log nexts known rows)
moves_told_since options journal nexts cache chained None within rows are = refl
moves_told_since options journal nexts cache chained (Some revision) within rows are =
    moves_told options journal nexts cache chained revision (slice_index_or nexts revision 0) within
    (slice_get-get_or nexts revision 0 (omega (arith, within, chained.counted))) rows are
