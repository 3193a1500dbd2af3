use Rattle.std.proofs.Common.{ℕ, List, IsTrue, ◌∷◌, ◌++◌, refl, sym, ap, append_assoc, rules, arith}
use Rattle.pol_script.specs.Lines.{is_one_line, newline}
use Rattle.policyd_kept.proofs.Ending.{ends_between}
use Rattle.policyd_kept.proofs.Serving.{piece_parts, ready_on, serving_as}
use Rattle.policyd_kept.proofs.piece.answer_piece.Goals as goal

pub loop-front-init : goal.loop-front-init
loop-front-init g c = record {
  ready = c.requires.ready;
  serving = λ story more serving. serving;
  disk_faults = omega arith;
  sink_faults = omega arith;
}

pub loop-front-preserved : goal.loop-front-preserved
loop-front-preserved g c =
    let d = g.D.Disk in
    let k = g.K.Sink in
    let now = c.loop-front.invariant in
    record {
      ready = c.in-Ok.ensures.ready;
      serving = λ story more first.
          serving_as d.moment d.left_since d.seen d.may_leave story (c.answer_ended.new.course.begun.items ++ (c.in-Some.behind.now ++ more)) c.answer_ended.new.course
          (k.written c.answer_ended.new.sink) c.answer_ended.new.disk c.answer_ended.new.machine
          (c.in-Ok.ensures.serves story (c.in-Some.behind.now ++ more)
          (serving_as d.moment d.left_since d.seen d.may_leave story _ c.loop-front.course (k.written c.loop-front.sink) c.loop-front.disk c.loop-front.machine (now.serving story more first)
          c.loop-front.course refl refl refl (c.loop-front.course.begun.items ++ c.in-Some.front.now ++ newline ∷ (c.in-Some.behind.now ++ more))
          (piece_parts c.loop-front.course.begun.items c.loop-front.rest.now c.in-Some.front.now c.in-Some.behind.now more c.in-Some.ensures.parts)))
          c.answer_ended.new.course refl refl refl (c.answer_ended.new.course.begun.items ++ c.in-Some.behind.now ++ more)
          (sym (append_assoc c.answer_ended.new.course.begun.items c.in-Some.behind.now more));
      disk_faults = omega (arith, now.disk_faults, c.answer_ended.ensures.disk_never_falls);
      sink_faults = omega (arith, now.sink_faults, c.answer_ended.ensures.sink_never_falls);
    }

pub returns-in-Err-clause-serves : goal.returns-in-Err-clause-serves
returns-in-Err-clause-serves g c story more first =
    let d = g.D.Disk in
    let k = g.K.Sink in
    c.in-Err.ensures.serves story (c.in-Some.behind.now ++ more)
    (serving_as d.moment d.left_since d.seen d.may_leave story _ c.loop-front.course (k.written c.loop-front.sink) c.loop-front.disk c.loop-front.machine (c.loop-front.invariant.serving story more first)
    c.loop-front.course refl refl refl (c.loop-front.course.begun.items ++ c.in-Some.front.now ++ newline ∷ (c.in-Some.behind.now ++ more))
    (piece_parts c.loop-front.course.begun.items c.loop-front.rest.now c.in-Some.front.now c.in-Some.behind.now more c.in-Some.ensures.parts))

pub answer_ended-requires-clause-ready : goal.answer_ended-requires-clause-ready
answer_ended-requires-clause-ready g c = c.loop-front.invariant.ready

pub returns-in-Ok-go_on-clause-ready : goal.returns-in-Ok-go_on-clause-ready
returns-in-Ok-go_on-clause-ready g c =
    let d = g.D.Disk in
    let came = c.go_on.ensures in
    let one : IsTrue (is_one_line c.loop-front.rest.now) = search rules in
    ready_on d.seen d.may_leave c.loop-front.course c.loop-front.disk c.loop-front.machine c.loop-front.invariant.ready c.loop-front.rest.now one c.go_on.new.course came.phase came.lines
    c.in-Ok-go_on.ensures.begun

pub returns-in-Ok-go_on-clause-serves : goal.returns-in-Ok-go_on-clause-serves
returns-in-Ok-go_on-clause-serves g c story more first =
    let d = g.D.Disk in
    let k = g.K.Sink in
    let came = c.go_on.ensures in
    serving_as d.moment d.left_since d.seen d.may_leave story (c.loop-front.course.begun.items ++ c.loop-front.rest.now ++ more) c.loop-front.course (k.written c.loop-front.sink) c.loop-front.disk
    c.loop-front.machine (c.loop-front.invariant.serving story more first) c.go_on.new.course came.phase came.marked came.lines (c.go_on.new.course.begun.items ++ more)
    (ap (λ (bytes : List ℕ). bytes ++ more) (sym {A = List ℕ} c.in-Ok-go_on.ensures.begun))

pub returns-in-Err-go_on-clause-serves : goal.returns-in-Err-go_on-clause-serves
returns-in-Err-go_on-clause-serves g c story more first =
    let d = g.D.Disk in
    ends_between d.moment d.left_since d.seen d.may_leave story (c.loop-front.course.begun.items ++ c.loop-front.rest.now ++ more) c.loop-front.course (g.K.Sink.written c.loop-front.sink)
    c.loop-front.disk c.loop-front.machine (c.loop-front.invariant.serving story more first)
