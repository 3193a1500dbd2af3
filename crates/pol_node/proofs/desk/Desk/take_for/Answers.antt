-- What is found at the history that is shown, and what is taken there.
use Rattle.std.proofs.Common.{◌≡◌, ◌≤◌, ℕ, [], List, Option, IfSome, sym, subst, ◌∙◌}
use Rattle.pol_history.specs.declared.event.HistoryEvent.{HistoryEvent}
use Rattle.pol_history.specs.Commits.{revision_of}
use Rattle.pol_history.proofs.Meetings.{pass-grows, passes-grow_whole}
use Rattle.pol_node.specs.Kept.{Finds, StaysAt}
use Rattle.pol_node.specs.TakenFor.{TakesFor}
use Rattle.pol_node.proofs.Keeping.{since_within, some_kept-later}
use Rattle.pol_node.proofs.Taking.{takes_told}
use Rattle.pol_node.proofs.desk.Desk.take_for.Goals as goal

pub finds-requires-clause-legal : goal.finds-requires-clause-legal
finds-requires-clause-legal g c = c.show.ensures.grows.whole.grows.legal

pub finds-requires-clause-kept : goal.finds-requires-clause-kept
finds-requires-clause-kept g c =
    some_kept-later g.N.NodeName.options c.args.pass.now.has.history c.show.new.pass.has.history c.args.kept.now
    c.show.ensures.grows.whole.grows.goes_on c.requires.kept

pub returns-in-Gone-clause-takes : goal.returns-in-Gone-clause-takes
returns-in-Gone-clause-takes g c =
    subst (Finds g.N.NodeName.options c.show.new.pass.has.history c.args.slot c.args.kept.now c.finds.new.kept) c.in-Gone.is c.finds.ensures

pub returns-in-Overtaken-clause-takes : goal.returns-in-Overtaken-clause-takes
returns-in-Overtaken-clause-takes g c =
    subst (Finds g.N.NodeName.options c.show.new.pass.has.history c.args.slot c.args.kept.now c.finds.new.kept) c.in-Overtaken.is c.finds.ensures

pub take-requires : goal.take-requires
take-requires g c =
    let options = g.N.NodeName.options in let history = c.show.new.pass.has.history in let new = c.finds.new.kept in
    let stays : StaysAt options history c.args.slot c.args.kept.now new =
    subst (Finds options history c.args.slot c.args.kept.now new) c.in-Still.is c.finds.ensures in
    record {
      since = subst (λ (o : Option ℕ). IfSome o (λ revision. revision ≤ revision_of history)) (sym c.since.ensures)
          (since_within options history new stays.keeps);
    }

pub returns-in-Still-clause-grows : goal.returns-in-Still-clause-grows
returns-in-Still-clause-grows g c =
    let options = g.N.NodeName.options in
    passes-grow_whole options c.args.pass.now c.show.new.pass c.take.new.pass [] [] (pass-grows options c.args.pass.now c.show.new.pass [] c.show.ensures.grows)
    c.take.ensures.grows

pub returns-in-Still-clause-takes : goal.returns-in-Still-clause-takes
returns-in-Still-clause-takes g c =
    let options = g.N.NodeName.options in let history = c.show.new.pass.has.history in let later = c.take.new.pass.has.history in
    let old = c.args.kept.now in let new = c.finds.new.kept in
    let same : later ≡ history = c.take.ensures.shown ∙ c.take.ensures.stays ∙ sym c.show.ensures.all in
    let stays : StaysAt options later c.args.slot old new =
    subst (λ (h : List HistoryEvent). StaysAt options h c.args.slot old new) (sym same)
    (subst (Finds options history c.args.slot old new) c.in-Still.is c.finds.ensures) in
    subst (TakesFor options later c.args.slot old new) (sym c.told.ensures)
    (takes_told options later c.args.slot old new stays c.take.ensures.grows.whole.grows.legal c.since.result c.since.ensures c.take.result
    c.take.ensures.revision c.take.ensures.taken c.take.ensures.map c.take.ensures.moves c.take.ensures.gone)
