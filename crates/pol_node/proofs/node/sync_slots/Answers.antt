-- The turns of the slots in use make a sync, from what had been seen when it began and from each earlier moment.
use Rattle.std.proofs.Common.{◌≡◌, ◌≤◌, ℕ, List, length, sym, subst, arith}
use Rattle.std.specs.List.Sorted.{IsPermutation}
use mathlib.Core.List.{IsPrefix}
use Rattle.pol_history.specs.declared.event.HistoryEvent.{HistoryEvent}
use Rattle.pol_history.specs.declared.turn.SlotTurn.{SlotTurn}
use Rattle.pol_history.specs.Calls.{IsSynced}
use Rattle.pol_history.specs.Commits.{revision_of, state_now}
use Rattle.pol_history.specs.Legal.{IsLegal}
use Rattle.pol_history.specs.SlotTurns.{EachTells, rows_of}
use Rattle.pol_history.proofs.Beginnings.{prefix_self, prefix_trans}
use Rattle.pol_history.proofs.SyncTurns.{turns_synced}
use Rattle.pol_model.specs.Committed.{slots_of}
use Rattle.pol_model.specs.declared.answer.FullSlot.{FullSlot}
use Rattle.pol_model.specs.declared.options.Options.{Options}
use Rattle.pol_model.specs.FullRows.{FullRowsAscend}
use Rattle.pol_node.proofs.Turns.{turns_later}
use Rattle.pol_node.proofs.node.sync_slots.Goals as goal

slots_synced : (options : Options) (first then mid new : List HistoryEvent) (revision : ℕ) (turns : List SlotTurn) (full : List FullSlot) → IsPrefix first then
    → IsPrefix then mid → IsPrefix mid new → IsLegal options new → revision ≡ revision_of then → EachTells options then mid (revision_of then) 0 turns
    → slots_of (state_now options then).endpoints ≤ length turns → IsPermutation (rows_of turns) full → FullRowsAscend full → IsSynced options first new revision full
slots_synced options first then mid new revision turns full begins on more legal is tell all those sorted =
    subst (λ n. IsSynced options first new n full) (sym is)
    (turns_synced options first then new turns full legal begins (prefix_trans then mid new on more) all
    (turns_later options then mid new (revision_of then) 0 turns more tell) those sorted)

pub returns-clause-synced : goal.returns-clause-synced
returns-clause-synced g c first begins =
    let then = c.args.pass.now.has.history in
    let shown = c.show-now.ensures.grows.whole.grows in
    let all : slots_of (state_now g.N.NodeName.options then).endpoints ≤ length c.in_ok-turns.turns.items = omega (arith, c.requires.all, c.in_ok-turns.ensures.each) in
    slots_synced g.N.NodeName.options first then c.turns_of.new.pass.has.history c.show-now.new.pass.has.history c.args.revision c.in_ok-turns.turns.items c.in_ok-full.full begins
    c.turns_of.ensures.grows.grows.goes_on shown.goes_on shown.legal c.requires.revision c.in_ok-turns.ensures.tell all c.in_ok-full.ensures.those c.in_ok-full.ensures.sorted

pub keep-requires-clause-tells : goal.keep-requires-clause-tells
keep-requires-clause-tells g c =
    let options = g.N.NodeName.options in
    let then = c.args.pass.now.has.history in
    let new = c.show-now.new.pass.has.history in
    let full = c.in_ok-full.full in
    let shown = c.show-now.ensures.grows.whole.grows in
    let all : slots_of (state_now options then).endpoints ≤ length c.in_ok-turns.turns.items = omega (arith, c.requires.all, c.in_ok-turns.ensures.each) in
    subst (λ (h : List HistoryEvent). IsSynced options h new c.args.revision full) (sym c.seen-then.ensures.same)
    (slots_synced options then then c.turns_of.new.pass.has.history new c.args.revision c.in_ok-turns.turns.items full (prefix_self then)
    c.turns_of.ensures.grows.grows.goes_on shown.goes_on shown.legal c.requires.revision c.in_ok-turns.ensures.tell all c.in_ok-full.ensures.those c.in_ok-full.ensures.sorted)

pub keep-requires-clause-begins : goal.keep-requires-clause-begins
keep-requires-clause-begins g c =
    let then = c.args.pass.now.has.history in
    let mid = c.turns_of.new.pass.has.history in
    let new = c.show-now.new.pass.has.history in
    subst (λ (h : List HistoryEvent). IsPrefix h new) (sym c.seen-then.ensures.same)
    (prefix_trans then mid new c.turns_of.ensures.grows.grows.goes_on c.show-now.ensures.grows.whole.grows.goes_on)
