-- What the other pass had seen comes before what is told, and what the slot's pass has seen goes to the other.
use Rattle.std.proofs.Common.{◌≡◌, List, Result, Ok, Err, IfErr, IfOk, sym, ap, ◌∙◌, subst}
use mathlib.Core.List.{IsPrefix}
use Rattle.pol_history.specs.declared.event.HistoryEvent.{HistoryEvent}
use Rattle.pol_history.specs.declared.turn.SlotTurn.{SlotTurn}
use Rattle.pol_history.specs.Commits.{revision_of}
use Rattle.pol_history.specs.SlotTurns.{TellsTurn}
use Rattle.pol_history.proofs.Beginnings.{prefix_self}
use Rattle.pol_node.specs.Kept.{NotRegenerated}
use Rattle.pol_node.specs.KeptAfter.{KeepsAfterError, KeepsUnlessGone}
use Rattle.pol_node.specs.Lost.{is_gone}
use Rattle.pol_node.specs.Slot.{SlotState, TellsAnyTurn}
use Rattle.pol_node.proofs.Turning.{told_around}
use Rattle.pol_node.proofs.slot.Slot.turn_for.Goals as goal
use Rattle.pol_node.proofs.slot.Slot.turn_for.Goals.{in-Ok, in-Err}

if_is : {A E : Type 0} (P : A → Type 0) (r : Result A E) (x : A) → r ≡ Ok x → P x → IfOk r P
if_is P r x same is = subst (λ o. IfOk o P) (sym same) is

if_not : {A E : Type 0} (P : A → Type 0) (r : Result A E) (e : E) → r ≡ Err e → IfOk r P
if_not P r e same = subst (λ o. IfOk o P) (sym same) tt

pub returns-clause-turn : goal.returns-clause-turn
returns-clause-turn g c =
    let options = g.N.NodeName.options in
    let first = c.args.pass.now.has.history in
    let new = c.turn-done.new.self.pass.has.history in
    let last = c.learn.new.self.has.history in
    let told : c.seen-2.result ≡ new = c.seen-2.ensures.same ∙ ap (λ (s : SlotState). s.pass.has.history) c.self.view_is in
    let more : IsPrefix new last = subst (λ (h : List HistoryEvent). IsPrefix h last) told c.learn.ensures.learned in
    elim c.match-done.branch as (λ _. IfOk c.match-done.result (TellsTurn options c.args.number first last (revision_of first))) [
      | in-Ok w ↦
          if_is (TellsTurn options c.args.number first last (revision_of first)) c.match-done.result w.in-Ok.done.turn w.result-is
          (told_around options c.args.number first first new last w.in-Ok.done.turn (prefix_self first) more
          (subst (λ (h : List HistoryEvent). TellsAnyTurn options c.args.number h new w.in-Ok.done.turn) c.seen.ensures.same w.in-Ok.ensures.turn))
      | in-Err w ↦ if_not (TellsTurn options c.args.number first last (revision_of first)) c.match-done.result _ w.result-is
    ]

-- why nothing was reported
if_err : {A E : Type 0} (P : E → Type 0) (r : Result A E) (e : E) → r ≡ Err e → P e → IfErr r P
if_err P r e same is = subst (λ o. IfErr o P) (sym same) is

if_none : {A E : Type 0} (P : E → Type 0) (r : Result A E) (x : A) → r ≡ Ok x → IfErr r P
if_none P r x same = subst (λ o. IfErr o P) (sym same) tt

pub returns-clause-cause : goal.returns-clause-cause
returns-clause-cause g c =
    let cause = NotRegenerated g.N.NodeName.options c.turn-done.new.self.pass.has.history c.args.number c.args.self.now.kept in
    elim c.match-done.branch as (λ _. IfErr c.match-done.result cause) [
      | in-Ok w ↦ if_none cause c.match-done.result _ w.result-is
      | in-Err w ↦ if_err cause c.match-done.result w.in-Err.error w.result-is w.in-Err.ensures.cause
    ]

-- what is kept
pub returns-clause-kept : goal.returns-clause-kept
returns-clause-kept g c =
    let slot = c.turn-done.new.self in
    let kept = λ (turn : SlotTurn). KeepsUnlessGone g.N.NodeName.options slot.pass.has.history c.args.number slot.kept (is_gone turn) in
    elim c.match-done.branch as (λ _. IfOk c.match-done.result kept) [
      | in-Ok w ↦ if_is kept c.match-done.result w.in-Ok.done.turn w.result-is w.in-Ok.ensures.kept
      | in-Err w ↦ if_not kept c.match-done.result _ w.result-is
    ]

pub returns-clause-left : goal.returns-clause-left
returns-clause-left g c =
    let slot = c.turn-done.new.self in
    let left = KeepsAfterError g.N.NodeName.options slot.pass.has.history c.args.number slot.kept in
    elim c.match-done.branch as (λ _. IfErr c.match-done.result left) [
      | in-Ok w ↦ if_none left c.match-done.result _ w.result-is
      | in-Err w ↦ if_err left c.match-done.result w.in-Err.error w.result-is w.in-Err.ensures.left
    ]
