use Rattle.std.proofs.Common.{if◌then◌else◌, subst}
use Rattle.pol_kept.specs.Keeps.{options_of}
use Rattle.pol_model.specs.declared.options.Options.{Options}
use Rattle.pol_run.specs.Run.{readings_of}
use Rattle.pol_crash_drill.specs.Drill.{IsDrill}
use Rattle.pol_crash_drill.proofs.Ends.{drilled}
use Rattle.pol_crash_drill.proofs.drilling.drill.Goals as goal

pub count_kept-requires-clause-journal : goal.count_kept-requires-clause-journal
count_kept-requires-clause-journal c =
    let cut = c.in_ok-told.ensures in
    record { requests = cut.requests; journal = cut.journal }

pub returns : goal.returns
returns c =
    let cut = c.in_ok-told.ensures in
    let told = c.in_ok-told.told in
    let readings = readings_of c.args.script.now in
    let whole = c.push_restart.new.text.items in
    subst (λ (options : Options). IsDrill options c.args.call readings whole (if told.marked then 1 else 0)) c.config_of-config.ensures.same
    (drilled (options_of c.config_of-config.result) c.args.call readings _ told.text.items told.marked cut c.in_ok-kept.kept whole
    (c.in_ok-kept.ensures cut.requests cut.journal) c.in_ok-push_restart.ensures)
