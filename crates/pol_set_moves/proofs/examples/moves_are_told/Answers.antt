use Rattle.pol_set_moves.proofs.Worked.{since_earlier, since_listed, since_selected}
use Rattle.pol_set_moves.proofs.examples.moves_are_told.Goals as goal

pub returns : goal.returns
returns c = record {
  since = since_listed;
  still = since_selected;
  earlier = since_earlier;
  unknown = λ rows moves tells. tells;
}
