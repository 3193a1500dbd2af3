use Rattle.std.proofs.Common.{ap}
use Rattle.pol_model.specs.Prefixes.{prefixes_released}
use Rattle.pol_allocator.specs.Held.{Held}
use Rattle.pol_store.proofs.Kept.{listed_still, told_released, told_still}
use Rattle.pol_store.proofs.store.Store.release_prefixes.Goals as goal

pub invariant_of-self : goal.invariant_of-self
invariant_of-self c = (
  c.self.invariant.0,
  c.self.invariant.1,
  c.self.invariant.2,
  told_still c.self.inside.endpoints.list (prefixes_released c.args.prefixes.now c.self.inside.numbers.rows)
      c.release_prefixes.new.self.rows c.let_go.new.addresses (ap (λ (h : Held). h.rows) c.release_prefixes.ensures.rows)
      (told_released c.self.inside.endpoints.list c.self.inside.numbers.rows c.self.inside.addresses c.let_go.new.addresses
      c.args.prefixes.now c.let_go.ensures.left c.self.invariant.3),
  listed_still c.self.inside.numbers.cache c.release_prefixes.new.self.cache c.self.inside.kept (ap (λ (h : Held). h.cache) c.release_prefixes.ensures.rows) c.self.invariant.4,
)
