use Rattle.pol_model_laws.proofs.Remembered.{added-by, applied-by}
use Rattle.pol_model_laws.proofs.state_laws.revisions_name_requests.Goals as goal

pub returns : goal.returns
returns c = record {
  endpoint = added-by;
  policy = applied-by;
}
