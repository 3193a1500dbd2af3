use Rattle.pol_model_laws.proofs.Worked.{sized, sized_more}
use Rattle.pol_model_laws.proofs.map_laws.sizes_written_out.Goals as goal

pub returns : goal.returns
returns c = record {
  without = sized;
  with_one_more = sized_more;
}
