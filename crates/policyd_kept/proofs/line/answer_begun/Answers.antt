use Rattle.std.proofs.Common.{ℕ, ◌≤◌, List, map, Ok, Err, ap, subst, arith, rules}
use Rattle.pol_machine.specs.Serial.{machine_of}
use Rattle.pol_play_kept.specs.Answering.{PlaysLine}
use Rattle.pol_script.specs.Reading.{reading_of}
use Rattle.pol_serial_run.specs.SerialRun.{machine_after_lines}
use Rattle.policyd_kept.proofs.Ending.{ends_at_limit, ends_at_write, ends_by_disk, ends_by_memory}
use Rattle.policyd_kept.proofs.Serving.{moments_here, ready_more, serves_more}
use Rattle.policyd_kept.proofs.line.answer_begun.Goals as goal

pub returns-then-is_full-clause-serves : goal.returns-then-is_full-clause-serves
returns-then-is_full-clause-serves g c story rest behind cut serving =
    let d = g.D.Disk in
    ends_at_limit d.moment d.left_since d.seen d.may_leave story rest c.args.course.now (g.K.Sink.written c.args.sink.now) c.args.disk.now c.args.machine.now serving
    c.args.course.now.begun.items behind cut (search rules)

pub write_answer-requires-clause-phase : goal.write_answer-requires-clause-phase
write_answer-requires-clause-phase g c =
    let few : c.args.course.now.lines ≤ 1000000 = c.requires.ready.lines in omega (arith, c.requires.ready.phases, few)

pub write_answer-requires-clause-lines : goal.write_answer-requires-clause-lines
write_answer-requires-clause-lines g c =
    let few : c.args.course.now.lines ≤ 1000000 = c.requires.ready.lines in omega (arith, few)

pub returns-in-Ok-write_answer-clause-ready : goal.returns-in-Ok-write_answer-clause-ready
returns-in-Ok-write_answer-clause-ready g c =
    let d = g.D.Disk in
    let wrote = c.in-Ok-write_answer.ensures in
    ready_more d.seen d.may_leave c.args.course.now c.args.disk.now c.args.machine.now c.requires.ready c.in-Ok.told c.write_answer.new.course c.answer_line.new.disk c.answer_line.new.machine
    c.in-Ok.ensures.kept (search rules) wrote.phase wrote.lines wrote.begun

pub returns-in-Ok-write_answer-clause-serves : goal.returns-in-Ok-write_answer-clause-serves
returns-in-Ok-write_answer-clause-serves g c story rest behind cut serving =
    let d = g.D.Disk in
    let old = c.args.course.now in
    let s = c.args.machine.now in
    let told = c.in-Ok.told in
    let new = c.answer_line.new.disk in
    let t = c.answer_line.new.machine in
    let wrote = c.in-Ok-write_answer.ensures in
    let m = machine_after_lines story.options (machine_of story.options story.start) (map reading_of serving.before) in
    let plays : PlaysLine d.seen d.may_leave d.moment d.left_since m old.phase (reading_of old.begun.items) c.args.disk.now s new t (Ok told) =
    subst (λ (line : List ℕ). PlaysLine d.seen d.may_leave d.moment d.left_since m old.phase (reading_of line) c.args.disk.now s new t (Ok told)) c.as_slice-line.ensures.value
    (c.in-Ok.ensures.plays m serving.stands) in
    serves_more d.moment d.left_since d.seen d.may_leave story rest old (g.K.Sink.written c.args.sink.now) c.args.disk.now s serving old.begun.items behind cut new t told plays.answered
    c.answer_line.ensures.options
    (moments_here d.moment d.left_since d.seen d.may_leave story rest old (g.K.Sink.written c.args.sink.now) c.args.disk.now s serving old.begun.items behind cut new t (Ok told) plays)
    c.write_answer.new.course (g.K.Sink.written c.write_answer.new.sink) wrote.written wrote.phase wrote.marked wrote.lines

pub returns-in-Err-Disk-clause-serves : goal.returns-in-Err-Disk-clause-serves
returns-in-Err-Disk-clause-serves g c story rest behind cut serving =
    let d = g.D.Disk in
    let old = c.args.course.now in
    let s = c.args.machine.now in
    let new = c.answer_line.new.disk in
    let t = c.answer_line.new.machine in
    let result = c.answer_line.result in
    let m = machine_after_lines story.options (machine_of story.options story.start) (map reading_of serving.before) in
    let plays : PlaysLine d.seen d.may_leave d.moment d.left_since m old.phase (reading_of old.begun.items) c.args.disk.now s new t result =
    subst (λ (line : List ℕ). PlaysLine d.seen d.may_leave d.moment d.left_since m old.phase (reading_of line) c.args.disk.now s new t result) c.as_slice-line.ensures.value
    (c.answer_line.ensures.plays m serving.stands) in
    ends_by_disk d.moment d.left_since d.seen d.may_leave story rest old (g.K.Sink.written c.args.sink.now) c.args.disk.now s serving old.begun.items behind cut new t result plays
    g.met.D.Disk.counts_now (search rules)

pub returns-in-Ok-clause-serves : goal.returns-in-Ok-clause-serves
returns-in-Ok-clause-serves g c story rest behind cut serving =
    let d = g.D.Disk in
    let k = g.K.Sink in
    let old = c.args.course.now in
    let s = c.args.machine.now in
    let told = c.in-Ok.told in
    let new = c.answer_line.new.disk in
    let t = c.answer_line.new.machine in
    let status = c.in-Err.status in
    let wrote = c.in-Err.ensures in
    let m = machine_after_lines story.options (machine_of story.options story.start) (map reading_of serving.before) in
    let plays : PlaysLine d.seen d.may_leave d.moment d.left_since m old.phase (reading_of old.begun.items) c.args.disk.now s new t (Ok told) =
    subst (λ (line : List ℕ). PlaysLine d.seen d.may_leave d.moment d.left_since m old.phase (reading_of line) c.args.disk.now s new t (Ok told)) c.as_slice-line.ensures.value
    (c.in-Ok.ensures.plays m serving.stands) in
    ends_at_write d.moment d.left_since d.seen d.may_leave story rest old (k.written c.args.sink.now) c.args.disk.now s serving old.begun.items behind cut new t (Ok told) plays
    g.met.D.Disk.counts_now told plays.answered c.answer_line.ensures.options (k.written c.write_answer.new.sink) status wrote.causes
    (λ is. ap k.written (wrote.memory (ap Err is))) (λ is. wrote.part (ap Err is))

pub returns-clause-serves : goal.returns-clause-serves
returns-clause-serves g c story rest behind cut serving =
    let d = g.D.Disk in
    let old = c.args.course.now in
    let s = c.args.machine.now in
    let new = c.answer_line.new.disk in
    let t = c.answer_line.new.machine in
    let result = c.answer_line.result in
    let m = machine_after_lines story.options (machine_of story.options story.start) (map reading_of serving.before) in
    let plays : PlaysLine d.seen d.may_leave d.moment d.left_since m old.phase (reading_of old.begun.items) c.args.disk.now s new t result =
    subst (λ (line : List ℕ). PlaysLine d.seen d.may_leave d.moment d.left_since m old.phase (reading_of line) c.args.disk.now s new t result) c.as_slice-line.ensures.value
    (c.answer_line.ensures.plays m serving.stands) in
    ends_by_memory d.moment d.left_since d.seen d.may_leave story rest old (g.K.Sink.written c.args.sink.now) c.args.disk.now s serving old.begun.items behind cut new t result plays
    g.met.D.Disk.counts_now
