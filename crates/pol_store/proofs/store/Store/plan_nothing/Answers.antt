use Rattle.std.proofs.Common.{ap}
use Rattle.pol_allocator.specs.Held.{Held}
use Rattle.pol_store.proofs.Kept.{listed_in_room, told_still}
use Rattle.pol_store.proofs.store.Store.plan_nothing.Goals as goal

pub invariant_of-self : goal.invariant_of-self
invariant_of-self g c = (
  c.self.invariant.0,
  c.self.invariant.1,
  c.self.invariant.2,
  told_still c.self.inside.endpoints.list c.self.inside.numbers.rows c.plan_nothing.new.self.rows c.self.inside.addresses (ap (λ (h : Held). h.rows) c.plan_nothing.ensures.same) c.self.invariant.3,
  listed_in_room c.self.inside.numbers.cache c.plan_nothing.new.self.cache c.self.inside.kept _ (ap (λ (h : Held). h.cache) c.plan_nothing.ensures.same) c.self.invariant.4,
)
