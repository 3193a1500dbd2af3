use Rattle.std.proofs.Common.{ℕ}
use Rattle.pol_script.specs.declared.command.Command.TheVariants as command
use Rattle.pol_sessions.specs.declared.line.PlayedLine.{PlayedLine}
use Rattle.pol_sessions.specs.Sessions.{GoesOn}
use Rattle.pol_sessions.proofs.Answered.{for_session}
use Rattle.pol_sessions.proofs.line.answer_line.Goals as goal

pub returns-in-Look-clause-answered : goal.returns-in-Look-clause-answered
returns-in-Look-clause-answered g c = rw c.in-Look.is (c.look-answer.ensures c.in-Look.session)

pub returns-in-Trace-clause-answered : goal.returns-in-Trace-clause-answered
returns-in-Trace-clause-answered g c =
    let goes : ℕ → PlayedLine → Type 0 =
    λ session played. GoesOn g.N.NodeName.options c.args.pass.now (command.Trace session c.in-Trace.query) played.answer c.trace.new.pass
    in rw c.in-Trace.is (for_session goes c.in-Trace.session c.trace.result c.trace.ensures.answered)

pub returns-in-Sync-clause-answered : goal.returns-in-Sync-clause-answered
returns-in-Sync-clause-answered g c =
    let goes : ℕ → PlayedLine → Type 0 = λ session played. GoesOn g.N.NodeName.options c.args.pass.now (command.Sync session) played.answer c.sync.new.pass
    in rw c.in-Sync.is (for_session goes c.in-Sync.session c.sync.result c.sync.ensures.answered)
