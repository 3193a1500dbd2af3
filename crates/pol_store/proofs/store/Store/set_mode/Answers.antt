use Rattle.std.proofs.Common.{List, subst, sym}
use Rattle.pol_kept_filters.specs.declared.kept.Kept.{Kept}
use Rattle.pol_kept_filters.specs.Kept.{AreKeptOf}
use Rattle.pol_store.proofs.Kept.{all_forgotten}
use Rattle.pol_store.proofs.store.Store.set_mode.Goals as goal

pub invariant_of-self : goal.invariant_of-self
invariant_of-self c = (
  c.self.invariant.0,
  c.self.invariant.1,
  subst (λ (rows : List Kept). AreKeptOf c.self.inside.policies.list c.args.mode rows) (sym c.forget_all.ensures.none) tt,
  c.self.invariant.3,
  all_forgotten c.self.inside.numbers.cache c.self.inside.kept c.forget_all.new.self c.forget_all.ensures.none c.self.invariant.4,
)
