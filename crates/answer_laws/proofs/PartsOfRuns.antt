-- All parts of the answers of a run: its numbers and names, and its sizes.
use Rattle.std.proofs.Common.{ℕ, ◌<◌, ◌^◌, List, length, IsTrue, arith}
use Rattle.std.specs.List.{list_all}
use Rattle.pol_answer.specs.Shown.{has_read_parts}
use Rattle.pol_model.specs.declared.options.Options.{Options}
use Rattle.pol_run.specs.Run.{IsRunOf}
use Rattle.answer_laws.proofs.NumbersOfRuns.{run_read}
use Rattle.answer_laws.proofs.SizesLeft.{all_left}
use Rattle.answer_laws.proofs.SizesOfRuns.{lines_few, run_sizes}

pub run_parts : (options : Options) (script written : List ℕ) (ended : ℕ) (run : IsRunOf options script written ended) → length script < 2 ^ 64
    → IsTrue (list_all has_read_parts run.answers)
run_parts options script written ended run few =
    all_left run.answers (run_read options script written ended run (omega (arith, lines_few script, few))) (run_sizes options script written ended run few)
