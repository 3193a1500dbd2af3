use Rattle.pol_kept_map.proofs.Unmoved.{names_egress, names_ingress, same_filters, stays_map, stays_work}
use Rattle.pol_kept_map.proofs.still.are_still.Goals as goal

pub returns-clause-work : goal.returns-clause-work
returns-clause-work c = λ so rows ascend names tell.
    let was = c.args.was.now in
    let is = c.args.is.now in
    stays_work was is c.args.was_rows.now rows c.args.moves.now names tell
    (same_filters was is (c.has_same_modes.ensures c.if-not-has_same_modes.false)
    (c.all_filters_stand.ensures.ingress so (names_ingress was is names)) (c.all_filters_stand.ensures.egress so (names_egress was is names)))
    c.sets_ascend.ensures ascend (c.all_still.ensures c.if-not-all_still.false)

pub returns-clause-map : goal.returns-clause-map
returns-clause-map c = λ so rows ascend names tell.
    let was = c.args.was.now in
    let is = c.args.is.now in
    stays_map was is c.args.was_rows.now rows c.args.moves.now names tell
    (same_filters was is (c.has_same_modes.ensures c.if-not-has_same_modes.false)
    (c.all_filters_stand.ensures.ingress so (names_ingress was is names)) (c.all_filters_stand.ensures.egress so (names_egress was is names)))
    c.sets_ascend.ensures ascend (c.all_still.ensures c.if-not-all_still.false)
