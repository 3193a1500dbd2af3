use Rattle.std.proofs.Common.{Some, true, map}
use Rattle.pol_model.specs.declared.options.Mode.TheVariants.{Default}
use Rattle.pol_history.specs.Grows.{PassState}
use Rattle.pol_board.specs.Counts.{new_passes}
use Rattle.board_tests.proofs.gone.gone.Given as goal

abbrev pub ghosts-goes_named : goal.ghosts-goes_named
ghosts-goes_named g a = record {
  book = a.book;
  options = record { mode = Default; localhost = true; map_max = Some 16384 };
  passes = map (λ (pass : PassState). pass.number) (new_passes 4);
}
