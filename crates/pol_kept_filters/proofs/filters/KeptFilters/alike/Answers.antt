use Rattle.std.proofs.Common.{sym}
use Rattle.pol_kept_filters.proofs.Rows.{serves}
use Rattle.pol_kept_filters.proofs.filters.KeptFilters.alike.Goals as goal

pub returns-then-is_for-clause-serves : goal.returns-then-is_for-clause-serves
returns-then-is_for-clause-serves c = serves c.in-Some.kept.now c.args.labels.now c.args.localhost (sym c.if-is_for.ensures.same)
