-- Equal answers have equal summaries.
use Rattle.std.proofs.Common.{ap}
use Rattle.pol_gen.specs.Generated.{generated}
use Rattle.pol_generated.proofs.ScriptRun.{one_run}
use Rattle.pol_generated.proofs.SerialRun.{any_limit}
use Rattle.pol_summary.proofs.laws.generated_scripts_have_one_summary.Goals as goal
use Rattle.pol_summary.specs.Summary.{summary_text}
use Rattle.pol_run.specs.Run.{readings_of}

pub returns-clause-one : goal.returns-clause-one
returns-clause-one c = λ options n answers room run. ap summary_text (one_run options n answers room run)

pub returns-clause-limit : goal.returns-clause-limit
returns-clause-limit c = λ options limit n. ap summary_text (any_limit options limit (readings_of (generated n)))
