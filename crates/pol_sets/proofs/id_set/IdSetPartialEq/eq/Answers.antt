use Rattle.std.proofs.Common.{◌∙◌}
use Rattle.std.specs.Prelude.{nat_eq}
use Rattle.std.specs.Cmp.Lexicographic.{pointwise}
use Rattle.pol_sets.proofs.Compared.{compared_is}
use Rattle.pol_sets.proofs.id_set.IdSetPartialEq.eq.Goals as goal

pub returns : goal.returns
returns c =
    compared_is c.iter.result c.iter-2.result c.eq.result c.eq.ensures.ran
    ∙ (λ i. pointwise nat_eq (c.iter.ensures.ids i) (c.iter-2.ensures.ids i))
