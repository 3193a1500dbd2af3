use Rattle.std.proofs.Common.{◌+◌, Some, drop, map}
use Rattle.pol_history.specs.Grows.{PassState}
use Rattle.pol_board.specs.Counts.{new_passes}
use Rattle.board_tests.proofs.regenerations.regenerations_told.Given as goal

abbrev pub ghosts-regenerations_named : goal.ghosts-regenerations_named
ghosts-regenerations_named g a = record {
  book = a.book;
  options = record { mode = a.config.mode; localhost = a.config.localhost; map_max = Some a.config.map_max };
  passes = map (λ (pass : PassState). pass.number) (drop 257 (new_passes (257 + a.config.passes)));
}
