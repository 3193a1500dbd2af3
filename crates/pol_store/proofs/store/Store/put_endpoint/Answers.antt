use Rattle.pol_store.proofs.store.Store.put_endpoint.Goals as goal

pub invariant_of-self : goal.invariant_of-self
invariant_of-self c = (
  c.self.invariant.0,
  c.self.invariant.1,
  c.self.invariant.2,
  tt,
  c.self.invariant.4,
)
