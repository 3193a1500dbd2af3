use Rattle.std.proofs.Common.{◌≡◌, [], rules}
use Rattle.pol_script.specs.Lines.{lines_of}
use Rattle.pol_kept.specs.Keeps.{requests_in}
use Rattle.pol_machine.specs.Stands.{options_in}
use Rattle.pol_play_kept.proofs.Walking.{begun, phase_fits, ran_all, stops_at, stops_at_call, stops_moments, walked_all, walks_on}
use Rattle.pol_play_kept.proofs.lines.play_lines.Goals as goal

pub loop-line-init : goal.loop-line-init
loop-line-init g c =
    let d = g.D.Disk in
    let s = c.args.machine.now in
    begun d.moment d.left_since d.seen d.may_leave d.faults d.does d.fails (options_in s) (requests_in s) c.args.script.now c.args.disk.now c.args.progress.now s
    (g.met.D.Disk.only_now c.args.disk.now) c.requires.so_far

pub play_line-requires-clause-kept : goal.play_line-requires-clause-kept
play_line-requires-clause-kept g c = c.loop-line.invariant.so_far.kept

pub play_line-requires-clause-phase : goal.play_line-requires-clause-phase
play_line-requires-clause-phase g c =
    let d = g.D.Disk in
    let s = c.args.machine.now in
    phase_fits d.moment d.left_since d.seen d.may_leave d.faults d.does d.fails (options_in s) (requests_in s) c.args.script.now c.args.disk.now c.loop-line.rest.now c.loop-line.progress c.loop-line.disk
    c.loop-line.machine c.loop-line.invariant c.requires.within

pub loop-line-preserved : goal.loop-line-preserved
loop-line-preserved g c =
    let d = g.D.Disk in
    let s = c.args.machine.now in
    let walked = c.loop-line.invariant in
    walks_on d.moment d.left_since d.seen d.may_leave d.faults d.does d.fails (options_in s) (requests_in s) c.args.script.now c.args.disk.now c.loop-line.rest.now c.loop-line.progress c.loop-line.disk
    c.loop-line.machine walked c.in-Some.line.now c.in-Some.behind.now c.in-Some.ensures.line c.play_line.new.progress c.play_line.new.disk c.play_line.new.machine
    (c.in-Ok.ensures.goes_on (options_in s) (requests_in s) _ walked.so_far) (c.play_line.ensures.any_moment (options_in s) (requests_in s) _ walked.so_far) c.play_line.ensures.never_falls
    (c.in-Ok.ensures.calls (options_in s) (requests_in s) _ walked.so_far)

pub returns-in-Err-clause-stops : goal.returns-in-Err-clause-stops
returns-in-Err-clause-stops g c is =
    let d = g.D.Disk in
    let s = c.args.machine.now in
    let walked = c.loop-line.invariant in
    stops_at d.moment d.left_since d.seen d.may_leave d.faults d.does d.fails (options_in s) (requests_in s) c.args.script.now c.args.disk.now c.loop-line.rest.now c.loop-line.progress c.loop-line.disk
    c.loop-line.machine walked c.in-Some.line.now c.in-Some.behind.now c.in-Some.ensures.line c.play_line.new.progress c.play_line.new.disk (c.in-Err.ensures.stops (options_in s) (requests_in s) _ walked.so_far is)

pub returns-in-Err-clause-stops_at_call : goal.returns-in-Err-clause-stops_at_call
returns-in-Err-clause-stops_at_call g c is =
    let d = g.D.Disk in
    let s = c.args.machine.now in
    let walked = c.loop-line.invariant in
    stops_at_call d.moment d.left_since d.seen d.may_leave d.faults d.does d.fails (options_in s) (requests_in s) c.args.script.now c.args.disk.now c.loop-line.rest.now c.loop-line.progress
    c.loop-line.disk c.loop-line.machine walked c.in-Some.line.now c.in-Some.behind.now c.in-Some.ensures.line c.play_line.new.progress c.play_line.new.disk
    (c.in-Err.ensures.stops (options_in s) (requests_in s) _ walked.so_far is) (c.in-Err.ensures.stops_keeping is)

pub returns-in-Err-clause-any_moment : goal.returns-in-Err-clause-any_moment
returns-in-Err-clause-any_moment g c =
    let d = g.D.Disk in
    let s = c.args.machine.now in
    let walked = c.loop-line.invariant in
    stops_moments d.moment d.left_since d.seen d.may_leave d.faults d.does d.fails (options_in s) (requests_in s) c.args.script.now c.args.disk.now c.loop-line.rest.now c.loop-line.progress c.loop-line.disk
    c.loop-line.machine walked c.in-Some.line.now c.in-Some.behind.now c.in-Some.ensures.line c.play_line.new.disk (c.play_line.ensures.any_moment (options_in s) (requests_in s) _ walked.so_far)

pub returns-clause-whole : goal.returns-clause-whole
returns-clause-whole g c =
    let d = g.D.Disk in
    let s = c.args.machine.now in
    let none : lines_of c.loop-line.rest.now ≡ [] = search rules in
    walked_all d.moment d.left_since d.seen d.may_leave d.faults d.does d.fails (options_in s) (requests_in s) c.args.script.now c.args.disk.now c.loop-line.rest.now c.loop-line.progress c.loop-line.disk
    c.loop-line.machine c.loop-line.invariant none

pub returns-clause-any_moment : goal.returns-clause-any_moment
returns-clause-any_moment g c = c.loop-line.invariant.moments

pub returns-clause-calls : goal.returns-clause-calls
returns-clause-calls g c =
    let d = g.D.Disk in
    let s = c.args.machine.now in
    let none : lines_of c.loop-line.rest.now ≡ [] = search rules in
    ran_all d.moment d.left_since d.seen d.may_leave d.faults d.does d.fails (options_in s) (requests_in s) c.args.script.now c.args.disk.now c.loop-line.rest.now c.loop-line.progress c.loop-line.disk
    c.loop-line.machine c.loop-line.invariant none
