use Rattle.std.proofs.Common.{◌≡◌, Some, drop, map, ◌+◌}
use Rattle.pol_history.specs.Grows.{PassState}
use Rattle.pol_board.specs.Counts.{new_passes}
use Rattle.pol_sessions.proofs.script.play_script.Given as goal

abbrev pub invariant-loop : goal.invariant-loop
invariant-loop g l = l.left.items ≡ l.fn.phases.items

abbrev pub ghosts-play_named : goal.ghosts-play_named
ghosts-play_named g a = record {
  book = a.book;
  options = record { mode = a.settings.config.mode; localhost = a.settings.config.localhost; map_max = Some a.settings.config.map_max };
  passes = map (λ (pass : PassState). pass.number) (drop 257 (new_passes (257 + a.settings.config.passes)));
}
