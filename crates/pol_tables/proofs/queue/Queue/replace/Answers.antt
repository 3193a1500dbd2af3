use Rattle.std.proofs.Common.{◌+◌, ◌<◌, drop, length, slice_get, slice_set, Some, sym, ap, ◌∙◌, subst}
use Rattle.pol_tables.specs.Queue.{Queued}
use Rattle.pol_tables.proofs.Queues.{got_behind, set_behind}
use Rattle.pol_tables.proofs.queue.Queue.replace.Goals as goal

pub returns-clause-list : goal.returns-clause-list
returns-clause-list g c =
    let old = c.self.inside in
    ap (λ w. drop old.gone (slice_set old.places.items (old.gone + c.args.place) w)) c.replace.ensures.after
    ∙ set_behind old.gone c.args.place old.places.items c.args.item
    ∙ ap (λ (q : Queued g.row.T.Denot). slice_set q.list c.args.place c.args.item) c.self.view_is

pub returns-clause-replaced : goal.returns-clause-replaced
returns-clause-replaced g c =
    let old = c.self.inside in
    let within = subst (λ (q : Queued g.row.T.Denot). c.args.place < length q.list) (sym c.self.view_is) c.requires.within in
    ap (λ (q : Queued g.row.T.Denot). slice_get q.list c.args.place) (sym c.self.view_is)
    ∙ got_behind old.gone c.args.place old.places.items c.index_mut.result.now within c.index_mut.ensures.value
    ∙ ap Some (sym c.replace.ensures.value)
