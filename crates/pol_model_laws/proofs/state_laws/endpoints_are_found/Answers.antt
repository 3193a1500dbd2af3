use Rattle.pol_model_laws.proofs.StateLaws.{few-endpoints, found-address, found-init, found-name, found-own, found-slot}
use Rattle.pol_model_laws.proofs.state_laws.endpoints_are_found.Goals as goal

pub returns : goal.returns
returns c = record {
  name = λ s endpoint it. found-name s it endpoint;
  slot = λ s endpoint it. found-slot s it endpoint;
  address = λ s endpoint it. found-address s it endpoint;
  identity = λ s endpoint it. found-own s it endpoint;
  init = λ s endpoint it. found-init s it endpoint;
  few = few-endpoints;
}
