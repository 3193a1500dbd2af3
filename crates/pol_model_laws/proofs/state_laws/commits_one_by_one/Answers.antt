use Rattle.pol_model_laws.proofs.StateLaws.{commits-each, commits-first, commits-more}
use Rattle.pol_model_laws.proofs.state_laws.commits_one_by_one.Goals as goal

pub returns : goal.returns
returns c = record {
  more = commits-more;
  first_ones = commits-first;
  each = commits-each;
}
