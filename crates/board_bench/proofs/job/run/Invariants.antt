use Rattle.std.proofs.Common.{Some, true, map}
use Rattle.pol_model.specs.declared.options.Mode.TheVariants.{Default}
use Rattle.pol_history.specs.Grows.{PassState}
use Rattle.pol_board.specs.Counts.{new_passes}
use Rattle.board_bench.proofs.job.run.Given as goal

abbrev pub ghosts-run_named : goal.ghosts-run_named
ghosts-run_named g a = record {
  book = a.book;
  options = record { mode = Default; localhost = true; map_max = Some 65536 };
  passes = map (λ (pass : PassState). pass.number) (new_passes a.places.passes);
}
