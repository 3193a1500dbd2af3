use Rattle.std.proofs.Common.{Option, subst}
use Rattle.pol_board_view.specs.declared.row.FaceMap.{FaceMap}
use Rattle.pol_board_view.specs.Rows.{HoldsMap}
use Rattle.pol_board_view.proofs.Lending.{no_map}
use Rattle.pol_board_view.proofs.row.whole_map.Goals as goal

pub returns-in_default : goal.returns-in_default
returns-in_default c held holds = no_map held (subst (λ (m : Option FaceMap). HoldsMap m held) c.in_default.is holds)
