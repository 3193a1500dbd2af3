use Rattle.pol_map_changes.proofs.Differences.{tables_have_their_entries}
use Rattle.pol_map_changes.proofs.laws.tables_have_their_entries.Goals as goal

pub returns : goal.returns
returns c = tables_have_their_entries
