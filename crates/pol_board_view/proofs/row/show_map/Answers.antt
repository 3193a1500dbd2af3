use Rattle.std.proofs.Common.{Option, subst}
use Rattle.std.specs.Arc.{arc_value}
use Rattle.pol_board_view.specs.Rows.{HoldsMap}
use Rattle.pol_board_view.specs.declared.row.FaceMap.{FaceMap}
use Rattle.pol_board_view.proofs.Holding.{first-map}
use Rattle.pol_board_view.proofs.row.show_map.Goals as goal

pub returns-in_ok-show_first-in-None-clause-ok : goal.returns-in_ok-show_first-in-None-clause-ok
returns-in_ok-show_first-in-None-clause-ok c held new holds makes whole =
    first-map c.in_ok-show_first-in-None.field-0 held new c.args.changes.now (arc_value c.args.addresses.now) c.args.revision
    (subst (λ (o : Option FaceMap). HoldsMap o held) c.in-None.is holds) makes c.in_ok-show_first-in-None.ensures
