use Rattle.std.proofs.Common.{List, not, sym, subst}
use Rattle.std.specs.List.{AllByRecursion}
use Rattle.pol_data.proofs.Every.{every-kept}
use Rattle.pol_model.specs.declared.row.Stamped.{Stamped}
use Rattle.pol_model.specs.Policies.{is_of_key}
use Rattle.pol_model.specs.Sizes.{IsShortPolicy}
use Rattle.pol_model_laws.proofs.Distinct.{differ_filtered}
use Rattle.pol_model_laws.proofs.PolicyHolders.{same_key-Decides}
use Rattle.pol_kept_filters.specs.Kept.{KeysDiffer}
use Rattle.pol_store.proofs.Kept.{kept_taken_out, listed_old}
use Rattle.pol_store.proofs.store.Store.take_out.Goals as goal

pub invariant_of-self : goal.invariant_of-self
invariant_of-self c =
    let policies = c.self.inside.policies.list in (
      subst (AllByRecursion (λ (stamped : Stamped). IsShortPolicy stamped.policy)) (sym c.remove-old.ensures.list)
          (every-kept (λ (stamped : Stamped). IsShortPolicy stamped.policy) (λ (stamped : Stamped). not (is_of_key c.args.key.now stamped)) policies c.self.invariant.0),
      subst (λ (p : List Stamped). KeysDiffer p) (sym c.remove-old.ensures.list)
          (differ_filtered (λ (s : Stamped). s.policy.key) same_key-Decides (λ (stamped : Stamped). not (is_of_key c.args.key.now stamped)) policies c.self.invariant.1),
      kept_taken_out policies c.remove-old.new.self.list c.self.inside.mode c.remove-old.result c.self.inside.kept c.forget_old.new.self c.self.invariant.2
          c.args.key.now c.self.invariant.1 c.remove-old.ensures.list c.remove-old.ensures.removed c.forget_old.ensures.left,
      c.self.invariant.3,
      listed_old c.self.inside.numbers.cache c.remove-old.result c.self.inside.kept c.forget_old.new.self c.forget_old.ensures.left c.self.invariant.4,
    )
