use Rattle.std.proofs.Common.{[], ◌∷◌, refl, take}
use Rattle.std.specs.Fmt.{digits}
use Rattle.pol_addr.specs.Cidr.{network}
use Rattle.pol_addr.specs.Prefix.{contains}
use Rattle.pol_model.specs.Enforced.{has_rule}
use Rattle.pol_model.specs.Verdict.{rule_covers}
use Rattle.pol_serial_run.proofs.Worked.{first}
use Rattle.pol_serial_run.specs.Worked.{answers}
use Rattle.pol_crash_drill.proofs.laws.worked_drills.Goals as goal

pub returns-clause-opening : goal.returns-clause-opening
unfolding contains network
returns-clause-opening c = record { answers = []; serial = tt; text_is = refl; status_is = refl }

pub returns-clause-record_kept : goal.returns-clause-record_kept
unfolding contains network
returns-clause-record_kept c = record { answers = take 1 answers; serial = (refl, tt); text_is = refl; status_is = refl }

pub returns-clause-gate_kept : goal.returns-clause-gate_kept
unfolding contains network
returns-clause-gate_kept c = record { answers = take 1 answers; serial = (refl, tt); text_is = refl; status_is = refl }

pub returns-clause-refused : goal.returns-clause-refused
unfolding contains network
returns-clause-refused c = record { answers = take 3 answers; serial = (refl, (refl, (refl, tt))); text_is = refl; status_is = refl }

pub returns-clause-last : goal.returns-clause-last
unfolding contains network
returns-clause-last c = record { answers = take 4 answers; serial = (refl, (refl, (refl, (refl, tt)))); text_is = refl; status_is = refl }

pub returns-clause-whole : goal.returns-clause-whole
unfolding contains network
returns-clause-whole c = record { answers = answers; serial = first; text_is = refl; status_is = refl }

pub returns-clause-text : goal.returns-clause-text
unfolding digits
returns-clause-text c = refl
