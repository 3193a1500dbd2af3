use Rattle.std.proofs.Common.{ap}
use Rattle.pol_allocator.specs.Held.{Held}
use Rattle.pol_store.proofs.Kept.{listed_in_room, told_left, told_still}
use Rattle.pol_store.proofs.store.Store.plan_prefixes.Goals as goal

pub invariant_of-self : goal.invariant_of-self
invariant_of-self g c = (
  c.self.invariant.0,
  c.self.invariant.1,
  c.self.invariant.2,
  told_still c.self.inside.endpoints.list c.self.inside.numbers.rows c.plan_prefixes.new.self.rows c.let_go.new.addresses
      (ap (λ (h : Held). h.rows) c.plan_prefixes.ensures.same)
      (told_left c.self.inside.endpoints.list c.self.inside.numbers.rows c.self.inside.addresses c.let_go.new.addresses
      c.args.given_up.now c.let_go.ensures.left c.self.invariant.3),
  listed_in_room c.self.inside.numbers.cache c.plan_prefixes.new.self.cache c.self.inside.kept _ (ap (λ (h : Held). h.cache) c.plan_prefixes.ensures.same) c.self.invariant.4,
)
