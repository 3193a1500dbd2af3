use Rattle.std.proofs.Common.{[], ◌∷◌, nat_eq, sym, subst}
use Rattle.std.specs.List.{IsDistinct}
use Rattle.std.proofs.lemmas.Bool.{false≢true}
use Rattle.engine_examples.proofs.taken.rows_have_selectors_of_their_own.Goals as goal

no_twins : IsDistinct nat_eq (7 ∷ 7 ∷ []) → ⊥
unfolding IsDistinct
no_twins it = false≢true (sym it.0.0)

pub returns : goal.returns
returns c = λ options s slot taken it same. no_twins (subst (IsDistinct nat_eq) same it.selectors)
