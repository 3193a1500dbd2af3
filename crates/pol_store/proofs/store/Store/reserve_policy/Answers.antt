use Rattle.std.proofs.Common.{List, subst, sym}
use Rattle.std.specs.List.{AllByRecursion}
use Rattle.pol_model.specs.declared.row.Stamped.{Stamped}
use Rattle.pol_model.specs.Sizes.{IsShortPolicy}
use Rattle.pol_kept_filters.specs.Kept.{AreKeptOf, KeysDiffer}
use Rattle.pol_store.proofs.store.Store.reserve_policy.Goals as goal

pub invariant_of-self : goal.invariant_of-self
invariant_of-self c =
    let same = sym c.reserve.ensures.list in (
      subst (AllByRecursion (λ (stamped : Stamped). IsShortPolicy stamped.policy)) same c.self.invariant.0,
      subst (λ (p : List Stamped). KeysDiffer p) same c.self.invariant.1,
      subst (λ (p : List Stamped). AreKeptOf p c.self.inside.mode c.self.inside.kept) same c.self.invariant.2,
      c.self.invariant.3,
      c.self.invariant.4,
    )
