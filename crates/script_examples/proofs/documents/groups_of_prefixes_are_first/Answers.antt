use Rattle.std.proofs.Common.{refl}
use Rattle.std.specs.Fmt.{digits}
use Rattle.script_examples.proofs.documents.groups_of_prefixes_are_first.Goals as goal

pub returns-clause-alone : goal.returns-clause-alone
unfolding digits
returns-clause-alone c = refl

pub returns-clause-beside : goal.returns-clause-beside
unfolding digits
returns-clause-beside c = refl

pub returns-clause-selector : goal.returns-clause-selector
unfolding digits
returns-clause-selector c = refl

pub returns-clause-both : goal.returns-clause-both
unfolding digits
returns-clause-both c = refl

pub returns-clause-null_group : goal.returns-clause-null_group
unfolding digits
returns-clause-null_group c = refl

pub returns-clause-lacks : goal.returns-clause-lacks
unfolding digits
returns-clause-lacks c = refl
