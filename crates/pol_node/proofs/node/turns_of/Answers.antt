-- One turn more.
use Rattle.std.proofs.Common.{[], ◌∷◌, ◌++◌, List, length, sym, ap, subst, arith, length-append}
use Rattle.pol_history.specs.Commits.{revision_of}
use Rattle.pol_history.specs.SlotTurns.{EachTells}
use Rattle.pol_history.specs.declared.turn.SlotTurn.{SlotTurn}
use Rattle.pol_history.proofs.Meetings.{passes-grow}
use Rattle.pol_node.proofs.Turns.{one_turn_more}
use Rattle.pol_node.proofs.node.turns_of.Goals as goal

pub loop-number-preserved : goal.loop-number-preserved
loop-number-preserved g c =
    let options = g.N.NodeName.options in
    let first = c.args.pass.now in
    let mid = c.loop-number.pass in
    let new = c.turn_for.new.pass in
    let was = c.loop-number.invariant in
    let grew = c.turn_for.ensures.grows in
    let turns = c.loop-number.turns.items in
    let pushed = c.in_ok-push_turn.ensures in
    let more = one_turn_more options first.has.history mid.has.history new.has.history c.loop-number.number turns c.in_ok-turn.turn
    was.grows.grows.goes_on grew.grows.goes_on was.long was.tell c.in_ok-turn.ensures.turn in
    record {
      long = omega (arith, ap length pushed, length-append turns (c.in_ok-turn.turn ∷ []), was.long);
      grows = passes-grow options first mid new [] [] was.grows grew;
      tell = subst (λ (ts : List SlotTurn). EachTells options first.has.history new.has.history (revision_of first.has.history) 0 ts)
          {x = turns ++ c.in_ok-turn.turn ∷ []} {y = c.push_turn.new.turns.items} (sym pushed) more;
    }
