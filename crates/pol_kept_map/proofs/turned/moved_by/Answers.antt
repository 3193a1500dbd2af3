use Rattle.std.proofs.Common.{List, Option, IfSome, sym, subst}
use Rattle.pol_sets.specs.declared.sets.Move.{Move}
use Rattle.pol_kept_map.specs.Applies.{MovesTell}
use Rattle.pol_kept_map.specs.Work.{WorkOf}
use Rattle.pol_kept_map.proofs.Staying.{stays_egress, stays_ingress}
use Rattle.pol_kept_map.proofs.turned.moved_by.Goals as goal

pub moved-requires-clause-ingress : goal.moved-requires-clause-ingress
moved-requires-clause-ingress c =
    let work : WorkOf = record { filters = c.args.was.now; rows = c.args.was_rows.now } in
    let tells : List Move → Type 0 = λ moves. MovesTell work c.args.is.now c.args.is_rows.now moves in
    stays_ingress c.args.was_rows.now c.args.is_rows.now c.as_slice.result.now c.args.was.now c.args.is.now c.requires.named
    (subst tells (sym c.as_slice.ensures) (subst (λ (moves : Option (List Move)). IfSome moves tells) c.in-Some.is c.requires.moves))

pub moved-requires-clause-egress : goal.moved-requires-clause-egress
moved-requires-clause-egress c =
    let work : WorkOf = record { filters = c.args.was.now; rows = c.args.was_rows.now } in
    let tells : List Move → Type 0 = λ moves. MovesTell work c.args.is.now c.args.is_rows.now moves in
    stays_egress c.args.was_rows.now c.args.is_rows.now c.as_slice.result.now c.args.was.now c.args.is.now c.requires.named
    (subst tells (sym c.as_slice.ensures) (subst (λ (moves : Option (List Move)). IfSome moves tells) c.in-Some.is c.requires.moves))
