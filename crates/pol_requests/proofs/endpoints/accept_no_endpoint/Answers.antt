use Rattle.std.proofs.Common.{◌≡◌, List, ℕ, ap, subst, ◌∙◌}
use Rattle.pol_model.specs.Endpoints.{without_endpoint}
use Rattle.pol_model_laws.specs.Holding.{has_row}
use Rattle.pol_store.specs.Store.{Stored}
use Rattle.pol_requests.proofs.Doing.{endpoint_gone, endpoint_may_go}
use Rattle.pol_requests.proofs.endpoints.accept_no_endpoint.Goals as goal

pub release-requires : goal.release-requires
release-requires c =
    let may = endpoint_may_go c.args.name c.args.number c.args.store.now c.requires.may in
    record {
      held = ap (λ (stored : Stored). has_row c.args.number stored.state.identities) c.drop_endpoint.ensures.gone ∙ may.0;
      not_local = may.1;
    }

pub returns-clause-done : goal.returns-clause-done
returns-clause-done c =
    let old = c.args.store.now in
    let mid = c.drop_endpoint.new.self in
    let gone = subst (λ (name : List ℕ). mid ≡ record old { state = record old.state { endpoints = without_endpoint name old.state.endpoints }; rooms = mid.rooms }) c.as_str.ensures c.drop_endpoint.ensures.gone in
    endpoint_gone c.args.name c.args.number old mid c.release.new.self gone c.release.ensures.released
