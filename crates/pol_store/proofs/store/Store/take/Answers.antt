use Rattle.std.proofs.Common.{sym, ap, ◌∙◌}
use Rattle.pol_tables.specs.Tables.{endpoint_in}
use Rattle.pol_store.proofs.store.Store.take.Goals as goal

pub returns-clause-taken : goal.returns-clause-taken
returns-clause-taken c = λ options s leave stands.
    c.in_ok-taken_for.ensures.taken options s c.args.slot leave stands (sym (ap (endpoint_in c.args.slot) stands.like.endpoints) ∙ c.in_ok-endpoint.ensures.endpoint)
