use Rattle.std.specs.Cmp.Lexicographic.{pointwise_decides}
use Rattle.pol_data.proofs.laws.list_equality.Goals as goal

pub returns : goal.returns
returns g c = λ each. pointwise_decides each
