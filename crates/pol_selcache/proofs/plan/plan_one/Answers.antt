use Rattle.std.proofs.Common.{◌≡◌, ◌&&◌, ◌||◌, not, filter, ap, sym, ◌∙◌}
use Rattle.std.specs.Arc.{arc_value}
use Rattle.pol_model.specs.Selects.{set_at}
use Rattle.pol_set_changes.specs.Ids.{has}
use Rattle.pol_selectors.specs.Inside.{live_of}
use Rattle.pol_selcache.specs.Live.{rows_without}
use Rattle.pol_selcache.proofs.Moves.{gained_is, lost_is, moved_is}
use Rattle.pol_selcache.proofs.Planning.{moves, stands}
use Rattle.pol_selcache.proofs.plan.plan_one.Goals as goal

pub returns-then-is_still-clause-change : goal.returns-then-is_still-clause-change
returns-then-is_still-clause-change g c =
    let rows = c.args.identities.now in
    let p = c.args.row.now.peer in
    let come = c.args.come.now in
    let gone = c.args.gone.now in
    let set = arc_value c.args.row.now.set in
    stands (set_at (rows_without gone rows) p) (live_of c.args.number c.args.row.now) c.in_ok-gained.gained c.in_ok-lost.lost
    (c.in_ok-gained.ensures.selected ∙ gained_is rows p come gone set c.requires.moving)
    (c.in_ok-lost.ensures ∙ ap (λ s. filter (λ m. has m s) gone) c.deref.ensures ∙ lost_is rows p come gone set c.requires.moving)
    (sym c.is_still.ensures ∙ c.if-is_still.true)

pub returns-clause-change : goal.returns-clause-change
returns-clause-change g c =
    let rows = c.args.identities.now in
    let p = c.args.row.now.peer in
    let come = c.args.come.now in
    let gone = c.args.gone.now in
    let set = arc_value c.args.row.now.set in
    let gained = c.in_ok-gained.ensures.selected in
    let lost = c.in_ok-lost.ensures ∙ ap (λ s. filter (λ m. has m s) gone) c.deref.ensures in
    let next : arc_value c.in_ok-set.set ≡ set_at (rows_without gone rows) p =
    moved_is rows p come gone set c.requires.moving (arc_value c.in_ok-set.set) c.in_ok-set.ensures.made.set.ascends
    (λ n. c.in_ok-set.ensures.made.members n ∙ (λ i. (has n set && not (has n (lost i))) || has n (gained i))) in
    moves (set_at (rows_without gone rows) p) (live_of c.args.number c.args.row.now) c.in_ok-gained.gained c.in_ok-lost.lost
    (gained ∙ gained_is rows p come gone set c.requires.moving)
    (lost ∙ lost_is rows p come gone set c.requires.moving)
    (sym c.is_still.ensures ∙ c.if-is_still.false) (arc_value c.in_ok-set.set) next
