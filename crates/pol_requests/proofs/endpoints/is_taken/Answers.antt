use Rattle.std.proofs.Common.{ap, ◌∙◌}
use Rattle.pol_model.specs.Remote.{endpoint_at}
use Rattle.pol_requests.proofs.Faults.{some_there}
use Rattle.pol_requests.proofs.endpoints.is_taken.Goals as goal

pub returns : goal.returns
returns c = record {
  taken = c.is_some.ensures ∙ some_there _ c.args.store.now.state.endpoints c.at_address.result (c.at_address.ensures.found ∙ ap (endpoint_at c.args.address) c.endpoints.ensures.list);
}
