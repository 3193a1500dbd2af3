use Rattle.std.proofs.Common.{[], ◌∷◌, ◌++◌, ap, ◌∙◌, sym}
use Rattle.pol_machine.specs.Serial.{machine_of}
use Rattle.pol_play_kept.proofs.Kept.{accepts_one}
use Rattle.pol_serial_run.specs.SerialRun.{machine_after_lines}
use Rattle.pol_crash_drill.specs.Drill.{before_accepted}
use Rattle.pol_crash_drill.proofs.Cut.{lines_early, lines_late, lines_of_all}
use Rattle.pol_crash_drill.proofs.Lines.{split_before}
use Rattle.pol_crash_drill.proofs.laws.which_lines_are_answered.Goals as goal

pub returns-clause-all : goal.returns-clause-all
returns-clause-all c options call readings beyond = lines_of_all options call readings beyond

pub returns-clause-none : goal.returns-clause-none
returns-clause-none c options call readings early = lines_early options call readings early

pub returns-clause-before : goal.returns-clause-before
returns-clause-before c options call before reading later late many line =
    let m = machine_of options [] in
    let readings = before ++ reading ∷ later in
    lines_late options call readings late
    ∙ ap (λ n. before_accepted options m n readings) (sym many)
    ∙ split_before options m before reading later line.request (accepts_one options (machine_after_lines options m before) reading line)
