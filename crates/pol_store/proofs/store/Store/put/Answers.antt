use Rattle.std.proofs.Common.{List, sym, subst}
use Rattle.std.specs.List.{AllByRecursion}
use Rattle.pol_model.specs.declared.row.Stamped.{Stamped}
use Rattle.pol_model.specs.Sizes.{IsShortPolicy}
use Rattle.pol_model_laws.proofs.PolicyHolders.{applied_differ}
use Rattle.pol_kept_filters.specs.Kept.{KeysDiffer}
use Rattle.pol_store.proofs.Kept.{kept_put, listed_old, listed_selected}
use Rattle.pol_store.proofs.PolicyRows.{every_applied}
use Rattle.pol_store.proofs.store.Store.put.Goals as goal

pub invariant_of-self : goal.invariant_of-self
invariant_of-self c =
    let policies = c.self.inside.policies.list in (
      subst (AllByRecursion (λ (stamped : Stamped). IsShortPolicy stamped.policy)) (sym c.put-old.ensures.list)
          (every_applied (λ (stamped : Stamped). IsShortPolicy stamped.policy) c.args.new policies c.requires.short c.self.invariant.0),
      subst (λ (p : List Stamped). KeysDiffer p) (sym c.put-old.ensures.list) (applied_differ c.args.new policies c.self.invariant.1),
      kept_put policies c.put-old.new.self.list c.self.inside.mode c.put-old.result c.self.inside.kept c.forget_old.new.self c.self.invariant.2
          c.args.new c.forget_selected.new.self c.put-old.ensures.list c.put-old.ensures.replaced c.forget_selected.ensures.left c.forget_old.ensures.left,
      c.self.invariant.3,
      listed_old c.self.inside.numbers.cache c.put-old.result c.forget_selected.new.self c.forget_old.new.self c.forget_old.ensures.left (listed_selected c.self.inside.numbers.cache c.args.new.policy c.self.inside.kept c.forget_selected.new.self c.forget_selected.ensures.left c.self.invariant.4),
    )
