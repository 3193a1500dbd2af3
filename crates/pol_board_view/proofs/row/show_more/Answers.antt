use Rattle.pol_board_view.proofs.row.show_more.Goals as goal

pub apply_to-requires : goal.apply_to-requires
apply_to-requires c = record { few = c.requires.room c.if-not-shown.false c.as_slice.ensures.ascending }
