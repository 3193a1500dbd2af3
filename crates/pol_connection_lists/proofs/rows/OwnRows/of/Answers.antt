use Rattle.std.proofs.Common.{List, sym, ap, subst, ◌∙◌}
use Rattle.pol_model.specs.declared.request.Request.{Request}
use Rattle.pol_model.specs.declared.row.NamedIdentity.{NamedIdentity}
use Rattle.pol_model.specs.After.{state_of}
use Rattle.pol_model_laws.specs.WithoutFaults.{WithoutFaults}
use Rattle.pol_connections.specs.Ends.{by_name}
use Rattle.pol_connection_lists.proofs.rows.OwnRows.of.Goals as goal

pub returns-clause-named : goal.returns-clause-named
returns-clause-named c =
    let options = c.args.repo.now.options in
    let same = c.journal.ensures.requests in
    c.in_ok-named.ensures options (subst (WithoutFaults options) (sym same) c.journal.ensures.without_faults)
    (c.identities-2.ensures.rows ∙ ap (λ (j : List Request). (state_of options j).identities) (sym same))
    ∙ ap (λ (j : List Request). by_name (λ (x : NamedIdentity). x.name) (state_of options j).named) same
