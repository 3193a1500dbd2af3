use Rattle.std.proofs.Common.{◌≡◌, IfOk, sym, ◌∙◌, ap, subst}
use Rattle.std.specs.List.{AllByRecursion}
use Rattle.pol_model.specs.PolicyMap.{canonical}
use Rattle.pol_distill.specs.Sorted.{IsSmall}
use Rattle.pol_distill.proofs.OnePass.{permuted, permuted_small}
use Rattle.pol_distill.proofs.sweep.canonical.Goals as goal

pub swept-requires-clause-small : goal.swept-requires-clause-small
swept-requires-clause-small c =
    subst (AllByRecursion IsSmall) (sym c.as_slice.ensures.value) (permuted_small _ _ c.in_order-entries.ensures.same c.requires)

pub returns : goal.returns
returns c =
    subst (λ m. IfOk c.swept.result (λ table. table.items ≡ m))
    (ap canonical c.as_slice.ensures.value ∙ permuted _ _ c.in_order-entries.ensures.same) c.swept.ensures
