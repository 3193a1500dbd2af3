use Rattle.std.proofs.Common.{ℕ, List, ◌∷◌, ◌++◌, refl, sym, ap}
use Rattle.pol_script.specs.Lines.{newline}
use Rattle.policyd_kept.proofs.Ending.{ends_between}
use Rattle.policyd_kept.proofs.Serving.{line_ends, ready_on, serving_as}
use Rattle.policyd_kept.proofs.piece.answer_ended.Goals as goal

pub answer_begun-requires : goal.answer_begun-requires
answer_begun-requires g c =
    let d = g.D.Disk in
    let came = c.go_on.ensures in
    record {
      ready = ready_on d.seen d.may_leave c.args.course.now c.args.disk.now c.args.machine.now c.requires.ready c.args.front.now c.requires.one_line c.go_on.new.course came.phase came.lines
          c.in-Ok.ensures.begun;
    }

pub returns-in-Ok-answer_begun-clause-serves : goal.returns-in-Ok-answer_begun-clause-serves
returns-in-Ok-answer_begun-clause-serves g c story behind serving =
    let d = g.D.Disk in
    let k = g.K.Sink in
    let old = c.args.course.now in
    let came = c.go_on.ensures in
    let rest = old.begun.items ++ c.args.front.now ++ newline ∷ behind in
    let here = serving_as d.moment d.left_since d.seen d.may_leave story rest old (k.written c.args.sink.now) c.args.disk.now c.args.machine.now serving c.go_on.new.course came.phase came.marked came.lines
    rest refl in
    let cut = line_ends old.begun.items c.args.front.now behind c.requires.ready.one_line c.requires.one_line c.go_on.new.course.begun.items c.in-Ok.ensures.begun in
    let after = c.answer_begun.new.course in
    serving_as d.moment d.left_since d.seen d.may_leave story behind after (k.written c.answer_begun.new.sink) c.answer_begun.new.disk c.answer_begun.new.machine
    (c.in-Ok-answer_begun.ensures.serves story rest behind cut here) after refl refl refl (after.begun.items ++ behind)
    (ap (λ (bytes : List ℕ). bytes ++ behind) (sym {A = List ℕ} c.in-Ok-answer_begun.ensures.begun))

pub returns-in-Err-answer_begun-clause-serves : goal.returns-in-Err-answer_begun-clause-serves
returns-in-Err-answer_begun-clause-serves g c story behind serving =
    let d = g.D.Disk in
    let k = g.K.Sink in
    let old = c.args.course.now in
    let came = c.go_on.ensures in
    let rest = old.begun.items ++ c.args.front.now ++ newline ∷ behind in
    let here = serving_as d.moment d.left_since d.seen d.may_leave story rest old (k.written c.args.sink.now) c.args.disk.now c.args.machine.now serving c.go_on.new.course came.phase came.marked came.lines
    rest refl in
    let cut = line_ends old.begun.items c.args.front.now behind c.requires.ready.one_line c.requires.one_line c.go_on.new.course.begun.items c.in-Ok.ensures.begun in
    c.in-Err-answer_begun.ensures.serves story rest behind cut here

pub returns-in-Err-clause-serves : goal.returns-in-Err-clause-serves
returns-in-Err-clause-serves g c story behind serving =
    let d = g.D.Disk in
    ends_between d.moment d.left_since d.seen d.may_leave story _ c.args.course.now (g.K.Sink.written c.args.sink.now) c.args.disk.now c.args.machine.now serving
