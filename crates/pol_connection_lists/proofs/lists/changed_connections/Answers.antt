use Rattle.std.proofs.Common.{subst}
use Rattle.std.proofs.lemmas.Result.{IfOk-weaker}
use Rattle.pol_connection_maps.specs.Rows.{AreRowsOf}
use Rattle.pol_repo.specs.Repository.{state_in}
use Rattle.pol_connection_lists.proofs.lists.changed_connections.Goals as goal

pub returns : goal.returns
returns c =
    let before = c.args.before.now in
    let after = c.args.after.now in
    let rows = subst (λ o. AreRowsOf o (state_in before) c.rows-rows_before.result) c.requires.options c.rows-rows_before.ensures.rows in
    record {
      list = IfOk-weaker c.changed_connections.result _ _ (λ list told.
          told after.options (state_in before) (state_in after) rows c.rows-rows_after.ensures.rows c.rows-rows_before.ensures.keeps c.rows-rows_after.ensures.keeps)
          c.changed_connections.ensures;
    }
