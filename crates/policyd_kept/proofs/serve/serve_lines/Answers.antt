use Rattle.std.proofs.Common.{◌≡◌, inr, ◌+◌, ◌-◌, ◌<◌, [], ◌++◌, length, take, Err, arith, rules}
use Rattle.std.proofs.lemmas.Grind.{common_steps}
use Rattle.std.specs.Io.KnownBytes.{IsAtEnd}
use Rattle.pol_kept.specs.Keeps.{requests_in}
use Rattle.pol_machine.specs.Stands.{options_in}
use Rattle.policyd_kept.proofs.Reading.{consumes_nothing, ends_at_once, ends_by_last, fits_by_last, last_serving, line_causes, now_taken, on_any, over_room, read_failed, read_stood, reads_first, reads_on, serving_piece, stops_in_piece, story}
use Rattle.policyd_kept.proofs.Streams.{consumes_kept, consumes_none, tail_of}
use Rattle.policyd_kept.proofs.serve.serve_lines.Goals as goal

pub returns-in-Err-clause-serves : goal.returns-in-Err-clause-serves
returns-in-Err-clause-serves g c =
    let d = g.D.Disk in
    let k = g.K.Sink in
    let s = c.args.machine.now in
    ends_at_once d.moment d.left_since d.seen d.may_leave c.args.disk.now s c.args.course.now (k.written c.args.sink.now) c.requires.ready.kept c.requires.opened c.requires.first
    (g.met.D.Disk.only_now c.args.disk.now) (g.S.Source.left c.args.source.now)

pub returns-in-Err-clause-taken : goal.returns-in-Err-clause-taken
returns-in-Err-clause-taken g c =
    record { taken = []; consumed = consumes_none (g.S.Source.left c.args.source.now) }

pub loop-count-init : goal.loop-count-init
loop-count-init g c =
    let d = g.D.Disk in
    let k = g.K.Sink in
    let s = c.args.machine.now in
    record {
      reading = reads_first d.moment d.left_since d.seen d.may_leave c.args.disk.now s c.args.course.now (k.written c.args.sink.now) c.requires.ready.kept c.requires.opened c.requires.first
          (g.met.D.Disk.only_now c.args.disk.now) (g.S.Source.left c.args.source.now);
      ready = c.requires.ready;
      some = grind (arith, common_steps);
      source_faults = omega arith;
      disk_faults = omega arith;
      sink_faults = omega arith;
    }

pub read-requires : goal.read-requires
read-requires g c =
    c.loop-count.invariant.some

pub returns-in-Err-read-clause-serves : goal.returns-in-Err-read-clause-serves
returns-in-Err-read-clause-serves g c =
    let d = g.D.Disk in
    let k = g.K.Sink in
    let s = c.args.machine.now in
    let now = c.loop-count.invariant in
    read_failed d.moment d.left_since d.seen d.may_leave (options_in s) (requests_in s) c.args.disk.now (k.written c.args.sink.now)
    (g.S.Source.left c.args.source.now) (g.S.Source.left c.loop-count.source) c.loop-count.room c.loop-count.course (k.written c.loop-count.sink) c.loop-count.disk c.loop-count.machine now.reading
    (g.S.Source.left c.read.new.self) c.in-Err-read.ensures.kept

pub returns-in-Err-read-clause-taken : goal.returns-in-Err-read-clause-taken
returns-in-Err-read-clause-taken g c =
    let now = c.loop-count.invariant in
    record { taken = now.reading.taken; consumed = consumes_kept _ _ _ now.reading.taken now.reading.consumed c.in-Err-read.ensures.kept }

pub answer_last-requires : goal.answer_last-requires
answer_last-requires g c =
    record { ready = c.loop-count.invariant.ready }

pub returns-then-ended-clause-serves : goal.returns-then-ended-clause-serves
returns-then-ended-clause-serves g c =
    let d = g.D.Disk in
    let k = g.K.Sink in
    let s = c.args.machine.now in
    let now = c.loop-count.invariant in
    let left = g.S.Source.left c.read.new.self in
    let none : c.in-Ok-read.count ≡ 0 = search rules in
    let end : IsAtEnd left = c.in-Ok-read.ensures.end none in
    let moved = c.in-Ok-read.ensures.moved in
    ends_by_last d.moment d.left_since d.seen d.may_leave (options_in s) (requests_in s) c.args.disk.now (k.written c.args.sink.now)
    (g.S.Source.left c.args.source.now) (g.S.Source.left c.loop-count.source) c.loop-count.room c.loop-count.course (k.written c.loop-count.sink) c.loop-count.disk c.loop-count.machine now.reading
    left c.read.new.into c.in-Ok-read.count none moved end c.answer_last.new.course (k.written c.answer_last.new.sink) c.answer_last.new.disk c.answer_last.new.machine c.answer_last.result
    (c.answer_last.ensures.serves (story d.moment d.left_since d.seen d.may_leave (options_in s) (requests_in s) c.args.disk.now (k.written c.args.sink.now) (now.reading.taken ++ tail_of left))
    (last_serving d.moment d.left_since d.seen d.may_leave (options_in s) (requests_in s) c.args.disk.now (k.written c.args.sink.now)
    (g.S.Source.left c.args.source.now) (g.S.Source.left c.loop-count.source) c.loop-count.room c.loop-count.course (k.written c.loop-count.sink) c.loop-count.disk c.loop-count.machine now.reading
    left c.read.new.into c.in-Ok-read.count none moved end))

pub returns-then-ended-clause-within : goal.returns-then-ended-clause-within
returns-then-ended-clause-within g c =
    let d = g.D.Disk in
    let k = g.K.Sink in
    let s = c.args.machine.now in
    let now = c.loop-count.invariant in
    let left = g.S.Source.left c.read.new.self in
    let none : c.in-Ok-read.count ≡ 0 = search rules in
    let end : IsAtEnd left = c.in-Ok-read.ensures.end none in
    let moved = c.in-Ok-read.ensures.moved in
    fits_by_last d.moment d.left_since d.seen d.may_leave (options_in s) (requests_in s) c.args.disk.now (k.written c.args.sink.now)
    (g.S.Source.left c.args.source.now) (g.S.Source.left c.loop-count.source) c.loop-count.room c.loop-count.course (k.written c.loop-count.sink) c.loop-count.disk c.loop-count.machine now.reading
    left c.read.new.into c.in-Ok-read.count none moved end c.answer_last.new.course (k.written c.answer_last.new.sink) c.answer_last.new.disk c.answer_last.new.machine c.answer_last.result
    (c.answer_last.ensures.serves (story d.moment d.left_since d.seen d.may_leave (options_in s) (requests_in s) c.args.disk.now (k.written c.args.sink.now) (now.reading.taken ++ tail_of left))
    (last_serving d.moment d.left_since d.seen d.may_leave (options_in s) (requests_in s) c.args.disk.now (k.written c.args.sink.now)
    (g.S.Source.left c.args.source.now) (g.S.Source.left c.loop-count.source) c.loop-count.room c.loop-count.course (k.written c.loop-count.sink) c.loop-count.disk c.loop-count.machine now.reading
    left c.read.new.into c.in-Ok-read.count none moved end)) c.answer_last.ensures.ready

pub returns-then-ended-clause-at_end : goal.returns-then-ended-clause-at_end
returns-then-ended-clause-at_end g c =
    let left = g.S.Source.left c.read.new.self in
    let none : c.in-Ok-read.count ≡ 0 = search rules in
    let end : IsAtEnd left = c.in-Ok-read.ensures.end none in
    let moved = c.in-Ok-read.ensures.moved in
    on_any c.answer_last.result (IsAtEnd left) end

pub returns-then-ended-clause-taken : goal.returns-then-ended-clause-taken
returns-then-ended-clause-taken g c =
    let now = c.loop-count.invariant in
    let left = g.S.Source.left c.read.new.self in
    let none : c.in-Ok-read.count ≡ 0 = search rules in
    let end : IsAtEnd left = c.in-Ok-read.ensures.end none in
    let moved = c.in-Ok-read.ensures.moved in
    record { taken = now.reading.taken; consumed = consumes_nothing _ _ left now.reading.taken c.read.new.into c.in-Ok-read.count now.reading.consumed none moved }

pub returns-then-count-room-clause-serves : goal.returns-then-count-room-clause-serves
returns-then-count-room-clause-serves g c =
    let d = g.D.Disk in
    let k = g.K.Sink in
    let s = c.args.machine.now in
    let now = c.loop-count.invariant in
    let left = g.S.Source.left c.read.new.self in
    let piece = take c.in-Ok-read.count c.read.new.into in
    let moved = c.in-Ok-read.ensures.moved in
    let over : c.loop-count.room < length piece = grind (arith, common_steps, c.in-Ok-read.ensures.bound, c.if-count-room.true) in
    over_room d.moment d.left_since d.seen d.may_leave (options_in s) (requests_in s) c.args.disk.now (k.written c.args.sink.now)
    (g.S.Source.left c.args.source.now) (g.S.Source.left c.loop-count.source) c.loop-count.room c.loop-count.course (k.written c.loop-count.sink) c.loop-count.disk c.loop-count.machine now.reading
    left piece moved over

pub returns-then-count-room-clause-taken : goal.returns-then-count-room-clause-taken
returns-then-count-room-clause-taken g c =
    let d = g.D.Disk in
    let k = g.K.Sink in
    let s = c.args.machine.now in
    let now = c.loop-count.invariant in
    let left = g.S.Source.left c.read.new.self in
    let piece = take c.in-Ok-read.count c.read.new.into in
    let moved = c.in-Ok-read.ensures.moved in
    record {
      taken = now.reading.taken ++ piece;
      consumed = now_taken d.moment d.left_since d.seen d.may_leave (options_in s) (requests_in s) c.args.disk.now (k.written c.args.sink.now)
          (g.S.Source.left c.args.source.now) (g.S.Source.left c.loop-count.source) c.loop-count.room c.loop-count.course (k.written c.loop-count.sink) c.loop-count.disk c.loop-count.machine now.reading
          left piece moved;
    }

pub slice_bounds-answer_piece-end : goal.slice_bounds-answer_piece-end
slice_bounds-answer_piece-end g c =
    c.in-Ok-read.ensures.bound

pub answer_piece-requires : goal.answer_piece-requires
answer_piece-requires g c =
    record { ready = c.loop-count.invariant.ready }

pub loop-count-preserved : goal.loop-count-preserved
loop-count-preserved g c =
    let d = g.D.Disk in
    let k = g.K.Sink in
    let s = c.args.machine.now in
    let now = c.loop-count.invariant in
    let left = g.S.Source.left c.read.new.self in
    let piece = take c.in-Ok-read.count c.read.new.into in
    let moved = c.in-Ok-read.ensures.moved in
    let shorter : length piece + (c.loop-count.room - c.in-Ok-read.count) ≡ c.loop-count.room = grind (arith, common_steps, c.in-Ok-read.ensures.bound, c.if-count-room.false) in
    record {
      reading = reads_on d.moment d.left_since d.seen d.may_leave (options_in s) (requests_in s) c.args.disk.now (k.written c.args.sink.now)
          (g.S.Source.left c.args.source.now) (g.S.Source.left c.loop-count.source) c.loop-count.room c.loop-count.course (k.written c.loop-count.sink) c.loop-count.disk c.loop-count.machine now.reading
          left piece moved c.answer_piece.new.course (k.written c.answer_piece.new.sink) c.answer_piece.new.disk c.answer_piece.new.machine (c.loop-count.room - c.in-Ok-read.count) shorter
          (λ more. c.in-Ok-answer_piece.ensures.serves (story d.moment d.left_since d.seen d.may_leave (options_in s) (requests_in s) c.args.disk.now (k.written c.args.sink.now) (now.reading.taken ++ piece ++ more)) more
          (serving_piece d.moment d.left_since d.seen d.may_leave (options_in s) (requests_in s) c.args.disk.now (k.written c.args.sink.now)
          (g.S.Source.left c.args.source.now) (g.S.Source.left c.loop-count.source) c.loop-count.room c.loop-count.course (k.written c.loop-count.sink) c.loop-count.disk c.loop-count.machine now.reading
          left piece moved more));
      ready = c.in-Ok-answer_piece.ensures.ready;
      some = omega (arith, c.read.auto.into, now.some);
      source_faults = omega (arith, now.source_faults, c.read.ensures.never_falls);
      disk_faults = omega (arith, now.disk_faults, c.answer_piece.ensures.disk_never_falls);
      sink_faults = omega (arith, now.sink_faults, c.answer_piece.ensures.sink_never_falls);
    }

pub returns-in-Err-answer_piece-clause-serves : goal.returns-in-Err-answer_piece-clause-serves
returns-in-Err-answer_piece-clause-serves g c =
    let d = g.D.Disk in
    let k = g.K.Sink in
    let s = c.args.machine.now in
    let now = c.loop-count.invariant in
    let left = g.S.Source.left c.read.new.self in
    let piece = take c.in-Ok-read.count c.read.new.into in
    let moved = c.in-Ok-read.ensures.moved in
    stops_in_piece d.moment d.left_since d.seen d.may_leave (options_in s) (requests_in s) c.args.disk.now (k.written c.args.sink.now)
    (g.S.Source.left c.args.source.now) (g.S.Source.left c.loop-count.source) c.loop-count.room c.loop-count.course (k.written c.loop-count.sink) c.loop-count.disk c.loop-count.machine now.reading
    left piece moved (k.written c.answer_piece.new.sink) c.answer_piece.new.disk c.in-Err-answer_piece.status
    (c.in-Err-answer_piece.ensures.serves (story d.moment d.left_since d.seen d.may_leave (options_in s) (requests_in s) c.args.disk.now (k.written c.args.sink.now) (now.reading.taken ++ piece ++ tail_of left)) (tail_of left)
    (serving_piece d.moment d.left_since d.seen d.may_leave (options_in s) (requests_in s) c.args.disk.now (k.written c.args.sink.now)
    (g.S.Source.left c.args.source.now) (g.S.Source.left c.loop-count.source) c.loop-count.room c.loop-count.course (k.written c.loop-count.sink) c.loop-count.disk c.loop-count.machine now.reading
    left piece moved (tail_of left)))

pub returns-in-Err-answer_piece-clause-taken : goal.returns-in-Err-answer_piece-clause-taken
returns-in-Err-answer_piece-clause-taken g c =
    let d = g.D.Disk in
    let k = g.K.Sink in
    let s = c.args.machine.now in
    let now = c.loop-count.invariant in
    let left = g.S.Source.left c.read.new.self in
    let piece = take c.in-Ok-read.count c.read.new.into in
    let moved = c.in-Ok-read.ensures.moved in
    record {
      taken = now.reading.taken ++ piece;
      consumed = now_taken d.moment d.left_since d.seen d.may_leave (options_in s) (requests_in s) c.args.disk.now (k.written c.args.sink.now)
          (g.S.Source.left c.args.source.now) (g.S.Source.left c.loop-count.source) c.loop-count.room c.loop-count.course (k.written c.loop-count.sink) c.loop-count.disk c.loop-count.machine now.reading
          left piece moved;
    }

pub returns-then-ended-clause-causes : goal.returns-then-ended-clause-causes
returns-then-ended-clause-causes g c = line_causes c.answer_last.result c.answer_last.ensures.causes

pub returns-then-ended-clause-read : goal.returns-then-ended-clause-read
returns-then-ended-clause-read g c is = absurd (read_stood c.answer_last.result c.answer_last.ensures.causes is)

pub returns-in-Err-answer_piece-clause-causes : goal.returns-in-Err-answer_piece-clause-causes
returns-in-Err-answer_piece-clause-causes g c = inr c.in-Err-answer_piece.ensures.causes

pub returns-in-Err-answer_piece-clause-read : goal.returns-in-Err-answer_piece-clause-read
returns-in-Err-answer_piece-clause-read g c is = absurd (read_stood (Err c.in-Err-answer_piece.status) c.in-Err-answer_piece.ensures.causes is)
