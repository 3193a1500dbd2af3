use Rattle.std.proofs.Common.{◌<◌, sym, ap, ◌∙◌, subst}
use Rattle.pol_model.specs.declared.limits.TheConstants.{ENDPOINTS_MAX}
use Rattle.pol_model.specs.Endpoints.{free_slot}
use Rattle.pol_tables.specs.Tables.{EndpointTable}
use Rattle.pol_tables.proofs.Kept.{free_slot-few}
use Rattle.pol_tables.proofs.endpoints.EndpointTable.free_slot.Goals as goal

pub returns-clause-within : goal.returns-clause-within
returns-clause-within c few =
    let is = c.least_slot.ensures ∙ ap free_slot (c.as_slice.ensures ∙ c.values.ensures.rest) ∙ ap (λ (t : EndpointTable). free_slot t.list) c.self.view_is in
    subst (λ n. n < ENDPOINTS_MAX) (sym is) (free_slot-few c.args.self.now.list ENDPOINTS_MAX few)
