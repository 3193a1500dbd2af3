use Rattle.pol_run_laws.proofs.CutScript.{played_is}
use Rattle.pol_run_laws.proofs.PutBack.{one_each}
use Rattle.pol_run_laws.proofs.phases.answers_are_put_back.Goals as goal

pub returns : goal.returns
returns c = record {
  one_each = λ lines told. one_each 1 lines told;
  in_order = λ sessions lines told seated long phase session. played_is sessions lines 1 told seated long phase session;
}
