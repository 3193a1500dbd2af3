use Rattle.pol_sanitize.proofs.Bindings.{subject_matches}
use Rattle.pol_sanitize.proofs.laws.subjects.Goals as goal

pub returns-clause-own_namespace : goal.returns-clause-own_namespace
returns-clause-own_namespace c = subject_matches
