use Rattle.std.proofs.lemmas.Result.{IfOk-weaker}
use Rattle.pol_repo.specs.Repository.{state_in}
use Rattle.pol_connection_lists.proofs.lists.ends_alone.Goals as goal

pub returns : goal.returns
returns c =
    let one = c.args.one.now in
    let other = c.args.other.now in
    record {
      names = IfOk-weaker c.ends_alone.result _ _ (λ names told.
          told one.options other.options (state_in one) (state_in other) c.rows-rows_one.ensures.rows c.rows-rows_other.ensures.rows)
          c.ends_alone.ensures;
    }
