use Rattle.std.proofs.Common.{ap, ◌∙◌}
use Rattle.pol_model.specs.declared.row.Endpoint.{Endpoint}
use Rattle.pol_model.specs.Endpoints.{endpoint_of}
use Rattle.pol_tables.specs.Tables.{EndpointTable}
use Rattle.pol_tables.proofs.ByName.{found_by_name}
use Rattle.pol_tables.proofs.endpoints.EndpointTable.find.Goals as goal

pub returns : goal.returns
returns c = record {
  found = c.get.ensures.value
      ∙ found_by_name (λ (e : Endpoint). e.name) c.args.name.now c.self.inside.by_name.entries c.self.invariant.keyed
      ∙ ap (λ (t : EndpointTable). endpoint_of c.args.name.now t.list) c.self.view_is;
}
