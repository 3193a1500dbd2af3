use Rattle.std.proofs.Common.{ℕ, List, sym, ◌∙◌, subst}
use Rattle.pol_history.specs.declared.event.HistoryEvent.{HistoryEvent}
use Rattle.pol_history.specs.Content.{content_of}
use Rattle.pol_history.specs.LookIn.{look_in, look_row}
use Rattle.pol_history.proofs.Contents.{content-commits}
use Rattle.pol_board_view.specs.Answers.{IsLookOf}
use Rattle.pol_board_view.proofs.face.Face.look.Goals as goal

pub returns-clause-answer : goal.returns-clause-answer
returns-clause-answer g c =
    let options = g.N.NodeName.options in
    let h = c.self.inside.seen in
    let query = c.args.query.now in
    let answer = c.look_in_rows.ensures.answer (content_of options h).live c.self.invariant.1 in
    subst (λ (k : List HistoryEvent). IsLookOf c.look_in_rows.result (look_in (content_of options k) query)) c.self.view_is
    (subst (λ (n : ℕ). IsLookOf c.look_in_rows.result (look_row n query ((content_of options h).live query.endpoint)))
    (c.self.invariant.0 ∙ sym (content-commits options h)) answer)
