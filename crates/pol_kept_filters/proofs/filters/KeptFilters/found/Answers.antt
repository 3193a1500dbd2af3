use Rattle.std.proofs.Common.{sym}
use Rattle.pol_kept_filters.proofs.Rows.{serves}
use Rattle.pol_kept_filters.proofs.filters.KeptFilters.found.Goals as goal

pub returns-in-Some-clause-serves : goal.returns-in-Some-clause-serves
returns-in-Some-clause-serves c = serves c.in-Some.kept.now c.args.labels.now c.args.localhost (sym c.if-is_for.ensures.same)
