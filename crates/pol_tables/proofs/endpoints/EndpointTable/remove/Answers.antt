use Rattle.std.proofs.Common.{sym, ap, ◌∙◌}
use Rattle.pol_model.specs.declared.row.Endpoint.{Endpoint}
use Rattle.pol_model.specs.Endpoints.{endpoint_of, without_endpoint}
use Rattle.pol_tables.specs.Tables.{EndpointTable}
use Rattle.pol_tables.proofs.ByName.{found_by_name}
use Rattle.pol_tables.proofs.Kept.{kept_removed, values_left}
use Rattle.pol_tables.proofs.endpoints.EndpointTable.remove.Goals as goal

pub returns-in-Some-clause-list : goal.returns-in-Some-clause-list
returns-in-Some-clause-list c =
    values_left _ _ _ c.self.invariant c.args.name.now c.shift_remove.ensures.entries
    ∙ ap (λ (t : EndpointTable). without_endpoint c.args.name.now t.list) c.self.view_is

pub returns-in-None-clause-list : goal.returns-in-None-clause-list
returns-in-None-clause-list c =
    values_left _ _ _ c.self.invariant c.args.name.now c.shift_remove.ensures.entries
    ∙ ap (λ (t : EndpointTable). without_endpoint c.args.name.now t.list) c.self.view_is

pub invariant_of-self : goal.invariant_of-self
invariant_of-self c =
    let there = c.in-Some.ensures.value ∙ found_by_name (λ (e : Endpoint). e.name) c.args.name.now c.self.inside.by_name.entries c.self.invariant.keyed in
    kept_removed _ _ _ _ c.self.invariant c.in-Some.ensures.unique c.in-Some.endpoint c.args.name.now c.in-Some.ensures.entries (sym there) c.swap_remove.ensures.updates.0

pub returns-in-Some-clause-removed : goal.returns-in-Some-clause-removed
returns-in-Some-clause-removed c =
    c.in-Some.ensures.value
    ∙ found_by_name (λ (e : Endpoint). e.name) c.args.name.now c.self.inside.by_name.entries c.self.invariant.keyed
    ∙ ap (λ (t : EndpointTable). endpoint_of c.args.name.now t.list) c.self.view_is

pub returns-in-None-clause-removed : goal.returns-in-None-clause-removed
returns-in-None-clause-removed c =
    c.in-None.ensures.value
    ∙ found_by_name (λ (e : Endpoint). e.name) c.args.name.now c.self.inside.by_name.entries c.self.invariant.keyed
    ∙ ap (λ (t : EndpointTable). endpoint_of c.args.name.now t.list) c.self.view_is
