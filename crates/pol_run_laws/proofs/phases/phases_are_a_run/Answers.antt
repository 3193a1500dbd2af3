use Rattle.std.specs.List.{zip}
use Rattle.pol_run_laws.specs.Cut.{answers_to}
use Rattle.pol_run_laws.proofs.Law.{placed_lines}
use Rattle.pol_run_laws.proofs.Phased.{are_placed}
use Rattle.pol_run_laws.proofs.SeatedLines.{phases_played}
use Rattle.pol_run_laws.proofs.phases.phases_are_a_run.Goals as goal

pub returns : goal.returns
returns c = λ options handed_out olds news lines told new seated phases k seat there.
    let found = phases_played options handed_out olds news lines told new seated phases k seat there in
    placed_lines options seat.has.history (zip lines (answers_to lines told)) found.0 (are_placed options seat.has.history (zip lines (answers_to lines told)) found.1)
