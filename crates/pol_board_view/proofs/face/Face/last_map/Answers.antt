use Rattle.std.proofs.Common.{◌≡◌, List, None, IfOk, sym, ap, ◌∙◌, subst}
use Rattle.std.specs.FinMap as finite
use Rattle.std.specs.Option.{option_copied}
use Rattle.indexmap.specs.IndexMap.{get}
use Rattle.pol_data.specs.contracts.text.TextPartialEq.TheImpl as text
use Rattle.pol_history.specs.declared.event.HistoryEvent.{HistoryEvent}
use Rattle.pol_history.specs.Content.{content_of}
use Rattle.pol_history_log.specs.NextMap.{map_before}
use Rattle.pol_board_view.specs.Changes.{table_shown}
use Rattle.pol_board_view.proofs.Lending.{no_row, of_row}
use Rattle.pol_board_view.proofs.face.Face.last_map.Goals as goal

pub returns-in-None : goal.returns-in-None
returns-in-None g c =
    let options = g.N.NodeName.options in
    let name = c.args.name.now in
    let h = c.self.inside.seen in
    subst (λ (k : List HistoryEvent). finite.entries (map_before None) ≡ table_shown options k name) c.self.view_is
    (no_row (get text.ghosts.eq c.self.inside.rows name) ((content_of options h).live name) (sym c.get.ensures.value ∙ ap option_copied c.in-None.is)
    (c.self.invariant.1.each name))

pub returns-in-Some : goal.returns-in-Some
returns-in-Some g c =
    let options = g.N.NodeName.options in
    let name = c.args.name.now in
    let h = c.self.inside.seen in
    subst (λ (k : List HistoryEvent). IfOk c.whole_map.result (λ last. finite.entries (map_before (option_copied last)) ≡ table_shown options k name)) c.self.view_is
    (of_row (λ last. finite.entries (map_before (option_copied last))) (get text.ghosts.eq c.self.inside.rows name) c.in-Some.row.now
    ((content_of options h).live name) c.whole_map.result c.whole_map.ensures (sym c.get.ensures.value ∙ ap option_copied c.in-Some.is)
    (c.self.invariant.1.each name))
