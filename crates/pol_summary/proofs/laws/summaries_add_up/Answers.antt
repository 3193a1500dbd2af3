-- The counts by kind are those by tests of the answers.
use Rattle.std.proofs.Common.{◌∙◌}
use Rattle.pol_gen.specs.Generated.{generated}
use Rattle.pol_generated.proofs.Counted.{commits_counted, verdicts_counted}
use Rattle.pol_generated.proofs.Faultless.{none_is_marked}
use Rattle.pol_summary.proofs.Tallies.{commits_of_kind, no_refusals, verdicts_of_words}
use Rattle.pol_summary.proofs.laws.summaries_add_up.Goals as goal
use Rattle.pol_run.specs.Run.{readings_of}
use Rattle.pol_run.specs.Serial.{serial_answers}

pub returns-clause-commits : goal.returns-clause-commits
returns-clause-commits c = λ options n. commits_of_kind (serial_answers options (readings_of (generated n))) ∙ commits_counted options n

pub returns-clause-refusals : goal.returns-clause-refusals
returns-clause-refusals c = λ options n. no_refusals (serial_answers options (readings_of (generated n))) (none_is_marked options n)

pub returns-clause-verdicts : goal.returns-clause-verdicts
returns-clause-verdicts c = λ options n. verdicts_of_words (serial_answers options (readings_of (generated n))) ∙ verdicts_counted options n
