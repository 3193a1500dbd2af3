use Rattle.std.proofs.Common.{ap, ◌∙◌}
use Rattle.std.specs.Map.{values_of}
use Rattle.pol_model.specs.Remote.{endpoint_at}
use Rattle.pol_tables.specs.Tables.{EndpointTable, endpoint_in}
use Rattle.pol_tables.proofs.Kept.{at_its_slot}
use Rattle.pol_tables.proofs.endpoints.EndpointTable.at_address.Goals as goal

pub returns-in-Some : goal.returns-in-Some
returns-in-Some c = record {
  found = c.at_slot.ensures
      ∙ ap (endpoint_in c.in-Some.slot.now) (c.as_slice.ensures ∙ c.values.ensures.rest)
      ∙ at_its_slot (values_of c.self.inside.by_name.entries) c.self.invariant.slots c.args.address c.in-Some.slot.now (c.in-Some.ensures.value ∙ c.self.invariant.found c.args.address)
      ∙ ap (λ (t : EndpointTable). endpoint_at c.args.address t.list) c.self.view_is;
}
