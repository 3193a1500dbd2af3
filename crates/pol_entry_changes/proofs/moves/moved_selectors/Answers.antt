use Rattle.std.proofs.Common.{ℕ, ◌+◌, List, [], ◌∷◌, ◌++◌, take, sym, ◌∙◌, subst}
use Rattle.std.specs.List.{AllByRecursion}
use Rattle.pol_entry_changes.specs.PeerRow.{NamesMove}
use Rattle.pol_entry_changes.proofs.Moving.{named_more, named_own, taken_more}
use Rattle.pol_entry_changes.proofs.moves.moved_selectors.Goals as goal
use Rattle.pol_entry_changes.proofs.moves.moved_selectors.Goals.{then-not-is_still+else-len-ge-FEW_MOVES+in_ok-push, else-not-is_still}

pub loop-one-preserved : goal.loop-one-preserved
loop-one-preserved c =
    let moves = c.args.moves.now in
    let i = c.loop-one.one-index in
    let one = c.one-item.result in
    let few = c.loop-one.few.items in
    elim c.if-not-is_still.branch [
      | then-not-is_still+else-len-ge-FEW_MOVES+in_ok-push w ↦
          subst (λ (items : List ℕ). AllByRecursion (NamesMove items) (take (i + 1) moves)) (sym w.in_ok-push.ensures.items ∙ (λ j. (sym w.few-is j).items))
          (taken_more (NamesMove (few ++ one.selector ∷ [])) moves i one c.loop-one-test.true c.one-item.is (named_more few one (take i moves) c.loop-one.invariant) (named_own few one))
      | else-not-is_still w ↦
          subst (λ (items : List ℕ). AllByRecursion (NamesMove items) (take (i + 1) moves)) (λ j. (sym w.few-is j).items)
          (taken_more (NamesMove few) moves i one c.loop-one-test.true c.one-item.is c.loop-one.invariant (λ lacks. c.is_still.ensures w.if-not-is_still.false))
    ]
