use Rattle.pol_model_laws.proofs.Done.{endpoint-added, endpoint-removed, identity-added, identity-removed, policy-applied, policy-removed}
use Rattle.pol_model_laws.proofs.state_laws.requests_are_done.Goals as goal

pub returns : goal.returns
returns c = record {
  endpoint = endpoint-added;
  identity = identity-added;
  policy = policy-applied;
  no_endpoint = endpoint-removed;
  no_identity = identity-removed;
  no_policy = policy-removed;
}
