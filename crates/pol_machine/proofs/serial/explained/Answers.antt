use Rattle.std.proofs.Common.{◌≡◌, None, Some, Err, ap, ◌∙◌, subst}
use Rattle.pol_model.specs.Endpoints.{endpoint_of}
use Rattle.pol_model.specs.Explain.{explain_of}
use Rattle.pol_repo.specs.Repository.{Repository, state_in}
use Rattle.pol_machine.specs.Stands.{kept_of}
use Rattle.pol_machine.proofs.Explained.{absent, traced}
use Rattle.pol_machine.proofs.serial.explained.Goals as goal

pub returns-in-Ok : goal.returns-in-Ok
returns-in-Ok c m stands =
    let query = c.args.query.now in
    traced (kept_of c.args.machine.now) m stands query c.revision-revision.result c.in-Ok.trace
    (c.revision-revision.ensures.revision ∙ ap (λ (r : Repository). (state_in r).revision) c.repo-repo.ensures.repo)
    (subst (λ (r : Repository). explain_of r.options (state_in r) query ≡ Some c.in-Ok.trace) c.repo-repo.ensures.repo c.in-Ok.ensures.trace)

pub returns-in-Err-NoEndpoint : goal.returns-in-Err-NoEndpoint
returns-in-Err-NoEndpoint c m stands =
    let query = c.args.query.now in
    absent (kept_of c.args.machine.now) m stands query c.revision-revision.result
    (c.revision-revision.ensures.revision ∙ ap (λ (r : Repository). (state_in r).revision) c.repo-repo.ensures.repo)
    (subst (λ (r : Repository). endpoint_of query.endpoint (state_in r).endpoints ≡ None) c.repo-repo.ensures.repo
    (c.explain.ensures.no_endpoint.0 (c.in-Err-NoEndpoint.is ∙ ap Err c.in-Err-NoEndpoint.field-0-is)))
