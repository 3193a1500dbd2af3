use Rattle.pol_json.proofs.FirstFaults.{read_is_of_the_table}
use Rattle.pol_json.proofs.laws.what_is_read_is_of_the_table.Goals as goal

pub returns : goal.returns
returns c = read_is_of_the_table
