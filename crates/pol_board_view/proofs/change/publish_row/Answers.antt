use Rattle.std.proofs.Common.{sym, ◌∙◌}
use Rattle.pol_board_view.proofs.Holding.{row-published}
use Rattle.pol_board_view.proofs.change.publish_row.Goals as goal

pub returns-clause-ok : goal.returns-clause-ok
returns-clause-ok c held new is makes =
    row-published c.args.row.now held new c.show_map.new.map c.args.added c.args.commits c.args.revision c.if-row-added.false is
    (c.in_ok-show_map.ensures.ok held.map new is.map (makes (sym is.added ∙ c.if-row-added.false)))
