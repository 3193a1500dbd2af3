use Rattle.std.proofs.lemmas.Result.{IfOk-weaker}
use Rattle.pol_repo.specs.Repository.{state_in}
use Rattle.pol_connection_lists.proofs.lists.open_connections.Goals as goal

pub returns : goal.returns
returns c =
    let repo = c.args.repo.now in
    record {
      list = IfOk-weaker c.open_connections.result _ _ (λ list told. told repo.options (state_in repo) c.rows-rows.ensures.rows c.rows-rows.ensures.keeps) c.open_connections.ensures;
    }
