use Rattle.std.proofs.Common.{[], ◌∷◌, ◌++◌, refl}
use Rattle.pol_sessions.specs.Hinting.{committed_at}
use Rattle.pol_sessions.proofs.Hinted.{hints_put}
use Rattle.pol_sessions.proofs.Lines.{halfway-first, halfway-more, halfway-until, on_err, pass-same}
use Rattle.pol_sessions.proofs.session.play_session.Goals as goal

pub loop-line-init : goal.loop-line-init
loop-line-init g c =
    let options = g.N.NodeName.options in
    let legal = c.fits_together.ensures.legal in record {
      halfway = rw c.new-answers.ensures (halfway-first options c.args.hints.now.room c.args.pass.now c.args.lines c.args.hint_pass.now legal);
      hints = c.requires.hints;
    }

pub loop-line-preserved : goal.loop-line-preserved
loop-line-preserved g c =
    let options = g.N.NodeName.options in
    let room = c.args.hints.now.room in
    let told = c.in_ok-played.played in
    let new = c.play_line.new.pass in
    let put = hints_put options room new.has.history (committed_at (c.in-Some.line, told.answer)) told.slots c.loop-line.hint_pass c.hint.new.hint_pass
    c.in_ok-played.ensures.slots c.hint.ensures.put in record {
      halfway = halfway-more options room c.args.pass.now c.loop-line.pass c.args.lines c.loop-line.left c.loop-line.answers
          c.args.hint_pass.now c.loop-line.hint_pass c.loop-line.invariant.halfway new c.next.new.self c.push.new.self c.in-Some.line
          told.answer c.hint.new.hint_pass c.in-Some.ensures.first c.in_ok-push.ensures.pushed c.in_ok-played.ensures.answered put;
      hints = c.hint.ensures.hints;
    }

-- ---- memory was wanting at a line

pub returns-in_err-played-clause-stopped : goal.returns-in_err-played-clause-stopped
returns-in_err-played-clause-stopped g c =
    let until = halfway-until g.N.NodeName.options c.args.hints.now.room c.args.pass.now c.loop-line.pass c.args.lines c.loop-line.left c.loop-line.answers
    c.args.hint_pass.now c.loop-line.hint_pass c.loop-line.invariant.halfway c.play_line.new.pass c.loop-line.hint_pass
    c.in_err-played.ensures.nothing refl in
    on_err _ c.from_residual.result until.stopped

pub returns-in_err-played-clause-hinted_until : goal.returns-in_err-played-clause-hinted_until
returns-in_err-played-clause-hinted_until g c =
    let until = halfway-until g.N.NodeName.options c.args.hints.now.room c.args.pass.now c.loop-line.pass c.args.lines c.loop-line.left c.loop-line.answers
    c.args.hint_pass.now c.loop-line.hint_pass c.loop-line.invariant.halfway c.play_line.new.pass c.loop-line.hint_pass
    c.in_err-played.ensures.nothing refl in
    on_err _ c.from_residual.result until

-- ---- it was wanting behind a line, for its answer

pub returns-in_err-push-clause-stopped : goal.returns-in_err-push-clause-stopped
returns-in_err-push-clause-stopped g c =
    let options = g.N.NodeName.options in
    let room = c.args.hints.now.room in
    let told = c.in_ok-played.played in
    let hint = c.hint.new.hint_pass in
    let new = c.play_line.new.pass in
    let on = c.in_ok-played.ensures.answered in
    let put = hints_put options room new.has.history (committed_at (c.in-Some.line, told.answer)) told.slots c.loop-line.hint_pass hint
    c.in_ok-played.ensures.slots c.hint.ensures.put in
    let more = c.loop-line.answers ++ told.answer ∷ [] in
    let halfway = halfway-more options room c.args.pass.now c.loop-line.pass c.args.lines c.loop-line.left c.loop-line.answers c.args.hint_pass.now
    c.loop-line.hint_pass c.loop-line.invariant.halfway new c.next.new.self more c.in-Some.line told.answer hint c.in-Some.ensures.first refl on put in
    let until = halfway-until options room c.args.pass.now new c.args.lines c.next.new.self more c.args.hint_pass.now hint halfway new hint
    (pass-same options new on.grows.grows.legal) refl in
    on_err _ c.from_residual-in_err-push.result until.stopped

pub returns-in_err-push-clause-hinted_until : goal.returns-in_err-push-clause-hinted_until
returns-in_err-push-clause-hinted_until g c =
    let options = g.N.NodeName.options in
    let room = c.args.hints.now.room in
    let told = c.in_ok-played.played in
    let hint = c.hint.new.hint_pass in
    let new = c.play_line.new.pass in
    let on = c.in_ok-played.ensures.answered in
    let put = hints_put options room new.has.history (committed_at (c.in-Some.line, told.answer)) told.slots c.loop-line.hint_pass hint
    c.in_ok-played.ensures.slots c.hint.ensures.put in
    let more = c.loop-line.answers ++ told.answer ∷ [] in
    let halfway = halfway-more options room c.args.pass.now c.loop-line.pass c.args.lines c.loop-line.left c.loop-line.answers c.args.hint_pass.now
    c.loop-line.hint_pass c.loop-line.invariant.halfway new c.next.new.self more c.in-Some.line told.answer hint c.in-Some.ensures.first refl on put in
    on_err _ c.from_residual-in_err-push.result
    (halfway-until options room c.args.pass.now new c.args.lines c.next.new.self more c.args.hint_pass.now hint halfway new hint
    (pass-same options new on.grows.grows.legal) refl)
