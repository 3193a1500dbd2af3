use Rattle.std.proofs.Common.{Option, option_map, ap, ◌∙◌}
use Rattle.pol_model.specs.declared.row.Endpoint.{Endpoint}
use Rattle.pol_model.specs.Endpoints.{endpoint_of}
use Rattle.pol_requests.proofs.LiveNumbers.{endpoint_held}
use Rattle.pol_requests.proofs.endpoints.prepare_no_endpoint.Goals as goal

pub plan_release-requires-clause-held : goal.plan_release-requires-clause-held
plan_release-requires-clause-held g c =
    endpoint_held c.args.store.now c.requires.stands c.args.name.now c.in-Some.endpoint.now.identity
    (ap (λ (o : Option Endpoint). option_map (λ (e : Endpoint). e.identity) o) (c.in-Some.ensures.found ∙ (λ i. endpoint_of (c.as_str.ensures i) (c.endpoints.ensures.list i))))
