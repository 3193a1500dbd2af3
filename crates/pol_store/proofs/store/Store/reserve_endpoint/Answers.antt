use Rattle.std.proofs.Common.{List, subst, sym}
use Rattle.pol_model.specs.declared.row.Endpoint.{Endpoint}
use Rattle.pol_store.specs.Inside.{Told}
use Rattle.pol_store.proofs.store.Store.reserve_endpoint.Goals as goal

pub invariant_of-self : goal.invariant_of-self
invariant_of-self c = (
  c.self.invariant.0,
  c.self.invariant.1,
  c.self.invariant.2,
  subst (λ (endpoints : List Endpoint). Told endpoints c.self.inside.numbers.rows c.self.inside.addresses) (sym c.reserve.ensures.list) c.self.invariant.3,
  c.self.invariant.4,
)
