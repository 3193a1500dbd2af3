use Rattle.std.proofs.Common.{◌<◌, length, remove, slice_get, sym, ap, ◌∙◌, subst, drop}
use Rattle.pol_tables.specs.Queue.{Queued}
use Rattle.pol_tables.proofs.Queues.{got_behind, removed_behind}
use Rattle.pol_tables.proofs.queue.Queue.take.Goals as goal

pub returns-else-place-as_slice-clause-list : goal.returns-else-place-as_slice-clause-list
returns-else-place-as_slice-clause-list g c =
    let old = c.self.inside in
    ap (drop old.gone) c.remove.ensures.items
    ∙ removed_behind old.gone c.args.place old.places.items
    ∙ ap (λ (q : Queued g.row.T.Denot). remove q.list c.args.place) c.self.view_is

pub returns-else-place-as_slice-clause-taken : goal.returns-else-place-as_slice-clause-taken
returns-else-place-as_slice-clause-taken g c =
    let old = c.self.inside in
    let within = subst (λ (q : Queued g.row.T.Denot). c.args.place < length q.list) (sym c.self.view_is) c.requires.within in
    ap (λ (q : Queued g.row.T.Denot). slice_get q.list c.args.place) (sym c.self.view_is)
    ∙ got_behind old.gone c.args.place old.places.items c.remove.result within c.remove.ensures.value
