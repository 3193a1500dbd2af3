-- What the changes make of the map that is shown is the map that they are to lead to.
use Rattle.std.proofs.Common.{◌≡◌, ◌++◌, ◌∷◌, [], List, IfSome, sym, ap, ◌∙◌, subst}
use Rattle.std.specs.Option.{option_copied}
use Rattle.pol_mapkey.specs.Entries.{Entry as MapEntry}
use Rattle.pol_history.specs.declared.event.HistoryEvent.{HistoryEvent}
use Rattle.pol_history.specs.declared.event.HistoryEvent.TheVariants as event
use Rattle.pol_history.specs.Machine.{endpoint_id}
use Rattle.pol_history.specs.MayFollow.{PublishMayFollow}
use Rattle.pol_history_log.specs.Asked.{table_at}
use Rattle.pol_board_view.specs.Changes.{table_shown}
use Rattle.pol_board_view.proofs.Lending.{map_made}
use Rattle.pol_board.proofs.writer.BoardWriter.with_map.Goals as goal

pub publish-longer-requires-clause-may : goal.publish-longer-requires-clause-may
publish-longer-requires-clause-may g c =
    let t = c.args.taken.now in let h = c.args.self.now.seen in let options = g.N.NodeName.options in
    let shown = ap (λ (k : List HistoryEvent). table_shown options k t.endpoint.name) (c.published.ensures ∙ c.args.self.now.shown) in
    let made =
    map_made c.args.changes.now (option_copied c.in_ok-last.last) c.of-map.result (table_shown options c.published.result.now t.endpoint.name)
    (table_shown options h t.endpoint.name) (table_at options h (endpoint_id t.endpoint) t.revision) c.of-map.ensures c.in_ok-last.ensures shown c.requires.leads in
    subst (λ (map : List MapEntry). PublishMayFollow options h (endpoint_id t.endpoint) t.revision map) (sym made) c.requires.may

pub returns : goal.returns
returns g c =
    let t = c.args.taken.now in let h = c.args.self.now.seen in let options = g.N.NodeName.options in
    let shown = ap (λ (k : List HistoryEvent). table_shown options k t.endpoint.name) (c.published.ensures ∙ c.args.self.now.shown) in
    let made =
    map_made c.args.changes.now (option_copied c.in_ok-last.last) c.of-map.result (table_shown options c.published.result.now t.endpoint.name)
    (table_shown options h t.endpoint.name) (table_at options h (endpoint_id t.endpoint) t.revision) c.of-map.ensures c.in_ok-last.ensures shown c.requires.leads in
    subst (λ (map : List MapEntry). IfSome c.publish-longer.result (λ l. l ≡ h ++ event.Publish (endpoint_id t.endpoint) t.revision map ∷ [])) made
    c.publish-longer.ensures
