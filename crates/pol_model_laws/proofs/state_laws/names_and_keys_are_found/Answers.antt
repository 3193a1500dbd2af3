use Rattle.pol_model_laws.proofs.StateLaws.{found-identity, found-named, found-policy}
use Rattle.pol_model_laws.proofs.state_laws.names_and_keys_are_found.Goals as goal

pub returns : goal.returns
returns c = record {
  identity = λ s identity it. found-identity s it identity;
  policy = λ s policy it. found-policy s it policy;
  prefix = λ s policy prefix it. found-named s it policy prefix;
}
