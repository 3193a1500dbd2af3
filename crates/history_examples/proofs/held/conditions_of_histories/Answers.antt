use Rattle.std.proofs.Common.{List}
use Rattle.pol_model.specs.declared.options.Options.{Options}
use Rattle.pol_run.specs.Spots.{Line}
use Rattle.pol_history.specs.declared.event.HistoryEvent.{HistoryEvent}
use Rattle.pol_run_laws.specs.HistoryOfRun.{IsHistoryOf}
use Rattle.history_examples.specs.Conditions.{Apart, Commits, Condition, Holds, OnePass, Rows, Syncs, Verdicts}
use Rattle.history_examples.proofs.LineByLine.{history_by}
use Rattle.history_examples.proofs.held.conditions_of_histories.Goals as goal

each : (options : Options) (history : List HistoryEvent) (lines : List Line) (it : IsHistoryOf options history lines) (condition : Condition)
    → Holds condition options history lines it.pass_of
each options history lines it Commits = it.commits
each options history lines it OnePass = it.one_pass
each options history lines it Apart = it.apart
each options history lines it Verdicts = it.verdicts
each options history lines it Rows = it.rows
each options history lines it Syncs = it.syncs

pub returns-clause-each : goal.returns-clause-each
returns-clause-each c = each

pub returns-clause-all : goal.returns-clause-all
returns-clause-all c = history_by
