use Rattle.std.proofs.Common.{refl}
use Rattle.std.specs.Fmt.{digits}
use Rattle.script_examples.proofs.answers.faults_of_lines.Goals as goal

pub returns-clause-lines : goal.returns-clause-lines
unfolding digits
returns-clause-lines c = refl

pub returns-clause-bytes : goal.returns-clause-bytes
unfolding digits
returns-clause-bytes c = refl

pub returns-clause-no_name : goal.returns-clause-no_name
unfolding digits
returns-clause-no_name c = refl

pub returns-clause-subjects : goal.returns-clause-subjects
unfolding digits
returns-clause-subjects c = refl

pub returns-clause-entries : goal.returns-clause-entries
unfolding digits
returns-clause-entries c = refl
