use Rattle.std.proofs.Common.{sym, ◌∙◌}
use Rattle.pol_machine.proofs.Reporting.{reported_row}
use Rattle.pol_machine.proofs.finish.finish_row.Goals as goal

pub returns-in-Ok-clause-finishes : goal.returns-in-Ok-clause-finishes
returns-in-Ok-clause-finishes c =
    reported_row c.args.limit c.args.commits c.args.taken c.follow-taken.result.0 c.follow-taken.ensures.same c.args.row.now c.follow-taken.new.work
    (sym c.is_reported.ensures ∙ c.if-is_reported.false) c.follow-taken.result.1 c.in-Ok.field-0 c.in-Ok.is c.follow-taken.ensures.follows c.report-reply.new.row
    c.report-reply.result c.report-reply.ensures
