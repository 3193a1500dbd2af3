use Rattle.std.proofs.Common.{◌≡◌, List, length, sym, subst}
use Rattle.std.specs.List.{AllByRecursion}
use Rattle.pol_script.specs.declared.command.Command.{Command}
use Rattle.pol_phases.proofs.CutLines.{phases_each}
use Rattle.pol_run.specs.Run.{readings_of}
use Rattle.pol_play_lines.proofs.Held.{held_by}
use Rattle.pol_play_lines.proofs.script.play_lines.Goals as goal

pub play_script-requires-clause-one_each : goal.play_script-requires-clause-one_each
play_script-requires-clause-one_each g c κs within =
    subst (λ (phases : List (List (List Command))). AllByRecursion (λ lines. length lines ≡ 8) phases) (sym c.in_ok-cut.ensures.cut.phases)
    (phases_each 8 (readings_of c.args.script.now))

pub returns : goal.returns
returns g c =
    let lines = readings_of c.args.script.now in
    let h = held_by c.args.options c.in-Some.map_max 8 lines c.in_ok-cut.cut.phases.items c.in_ok-cut.cut.marks c.in_ok-played.played.told.items
    c.in_ok-played.played.last c.in_ok-answers.answers.items c.in-Some.is (c.lines_are_seated.ensures c.args.script.now) c.in_ok-cut.ensures.cut.phases c.in_ok-cut.ensures.cut.marks
    c.in_ok-played.ensures c.in_ok-answers.ensures in
    record { one_each = h.one_answer; run = h.run; legal = h.legal; history = h.history }
