use Rattle.std.proofs.Common.{◌≤◌, [], ap, arith}
use Rattle.pol_mapkey.specs.declared.Word.TheVariants.{Allowed, DeniedByDefault}
use Rattle.pol_model.specs.declared.answer.Trace.{Trace}
use Rattle.pol_run.proofs.Examples.{allowed_is_denied, some_same}
use Rattle.pol_run.proofs.refuted.traces.Goals as goal

pub returns-clause-stale_trace : goal.returns-clause-stale_trace
returns-clause-stale_trace c = λ run. let reached : 2 ≤ 1 = run.right.1.1.0.is_moment.reached in omega arith

pub returns-clause-trace_ahead : goal.returns-clause-trace_ahead
returns-clause-trace_ahead c = λ run. let allowed : 2 ≤ 1 = run.right.1.0.is_moment.allowed in omega arith

pub returns-clause-trace_ahead_of_phase : goal.returns-clause-trace_ahead_of_phase
returns-clause-trace_ahead_of_phase c = λ run. let allowed : 2 ≤ 1 = run.right.1.0.is_moment.allowed in omega arith

pub returns-clause-other_trace : goal.returns-clause-other_trace
returns-clause-other_trace c = λ run.
    allowed_is_denied
    (ap (λ (t : Trace). t.word)
    (some_same (record { word = Allowed; remote = 2; denies = []; allows = [] }) (record { word = DeniedByDefault; remote = 2; denies = []; allows = [] })
    run.right.1.0.explains))
