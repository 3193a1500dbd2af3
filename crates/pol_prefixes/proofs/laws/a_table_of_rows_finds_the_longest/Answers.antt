use Rattle.pol_prefixes.proofs.Tables.{longest_found, one_table}
use Rattle.pol_prefixes.proofs.laws.a_table_of_rows_finds_the_longest.Goals as goal

pub returns : goal.returns
returns c = record {
  found = longest_found;
  one = one_table;
}
