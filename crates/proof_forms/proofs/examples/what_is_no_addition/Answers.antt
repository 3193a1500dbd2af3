use Rattle.std.proofs.Common.{◌≤◌, lit<, arith}
use Rattle.proof_forms.proofs.examples.what_is_no_addition.Goals as goal

pub returns-clause-in_front : goal.returns-clause-in_front
returns-clause-in_front c = λ added. let behind = added.behind in absurd (cc)

pub returns-clause-up : goal.returns-clause-up
returns-clause-up c = λ down. let first : 1 ≤ 0 = down 0 (lit< tt) in omega arith
