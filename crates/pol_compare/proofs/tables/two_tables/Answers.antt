use Rattle.pol_compare.proofs.Cutting.{few_entries}
use Rattle.pol_compare.proofs.tables.two_tables.Goals as goal

pub second_table-requires-clause-left : goal.second_table-requires-clause-left
second_table-requires-clause-left c = few_entries c.in-Ok.table c.args.left.now c.in-Ok.ensures.kept c.in-Ok.ensures.text c.requires.left
