use Rattle.std.proofs.Common.{refl}
use Rattle.pol_filters.specs.Resolved.{policy_says}
use Rattle.engine_examples.proofs.filters.members_enforce.Goals as goal

pub returns-clause-nothing : goal.returns-clause-nothing
unfolding policy_says
returns-clause-nothing c = refl

pub returns-clause-by_allows : goal.returns-clause-by_allows
unfolding policy_says
returns-clause-by_allows c = refl

pub returns-clause-by_denies : goal.returns-clause-by_denies
unfolding policy_says
returns-clause-by_denies c = refl

pub returns-clause-by_what_covers_nothing : goal.returns-clause-by_what_covers_nothing
unfolding policy_says
returns-clause-by_what_covers_nothing c = refl

pub returns-clause-yes_in : goal.returns-clause-yes_in
unfolding policy_says
returns-clause-yes_in c = refl

pub returns-clause-yes_out : goal.returns-clause-yes_out
unfolding policy_says
returns-clause-yes_out c = refl

pub returns-clause-no_in : goal.returns-clause-no_in
unfolding policy_says
returns-clause-no_in c = refl

pub returns-clause-no_out : goal.returns-clause-no_out
unfolding policy_says
returns-clause-no_out c = refl
