use Rattle.std.proofs.Common.{◌∙◌}
use Rattle.std.proofs.lemmas.Result.{IfOk-weaker}
use Rattle.pol_repo.specs.Repository.{state_in}
use Rattle.pol_judge.proofs.ToldByParts.{trace_told}
use Rattle.pol_trace.proofs.query.explained.Goals as goal

pub returns : goal.returns
returns c = record {
  trace = IfOk-weaker c.explain_at.result _ _ (λ trace told. told
      ∙ trace_told c.localhost.result c.args.repo.now.options (state_in c.args.repo.now) c.mode.result c.policies.result.now c.identities.result.now c.number_of.result c.args.query.now c.args.endpoint.now
      c.localhost.ensures.localhost c.mode.ensures.mode c.policies.ensures.list c.identities.ensures.rows c.number_of.ensures.number)
      c.explain_at.ensures.trace;
}
