use Rattle.std.proofs.Common.{◌≡◌, List, Bool, false, true, if◌then◌else◌, Err, ap, subst, sym}
use Rattle.pol_disk.specs.Images.{LeavesOnly}
use Rattle.pol_disk.proofs.Moments.{joined}
use Rattle.pol_kept.specs.Keeps.{TellsDamage, options_of, requests_in}
use Rattle.pol_kept.specs.declared.error.OpenError.{OpenError}
use Rattle.pol_machine.specs.Serial.{machine_of}
use Rattle.pol_machine.specs.Stands.{Stands, options_in}
use Rattle.pol_model.specs.declared.options.Options.{Options}
use Rattle.pol_model.specs.declared.request.Request.{Request}
use Rattle.pol_run.specs.Run.{readings_of}
use Rattle.pol_serial_run.specs.Accepted.{accepted}
use Rattle.pol_play_kept.specs.Calls.{RunsFor, StopsAtCall, calls_to_keep, calls_to_open}
use Rattle.pol_play_kept.specs.Images.{IsJournalWithin}
use Rattle.pol_play_kept.specs.Played.{IsWhole, StopsAt}
use Rattle.pol_play_kept.proofs.Kept.{not_both, still_unopened}
use Rattle.pol_play_kept.proofs.Counted.{fails_to_open, opens_for, runs_more}
use Rattle.pol_play_kept.proofs.Opened.{as_opened, opened_requests, opening_leaves, opening_moments}
use Rattle.pol_play_kept.proofs.script.play_script.Goals as goal

pub play_opened-requires-clause-opened : goal.play_opened-requires-clause-opened
play_opened-requires-clause-opened g c =
    let machine = c.in-Ok.machine in
    subst (λ (o : Options). Stands machine (machine_of o (requests_in machine))) (sym c.in-Ok.ensures.opened.options_are) c.in-Ok.ensures.opened.stands

pub returns-in-Ok-play_opened-clause-whole : goal.returns-in-Ok-play_opened-clause-whole
returns-in-Ok-play_opened-clause-whole g c start were is =
    let d = g.D.Disk in
    let options = options_of c.args.config in
    let machine = c.in-Ok.machine in
    let kept = c.in-Ok-play_opened.kept in
    let requests = opened_requests d.moment d.left_since d.seen d.may_leave options start c.args.disk.now c.open_over.new.disk were (g.met.D.Disk.seen_may_stay c.args.disk.now) (requests_in machine) c.in-Ok.ensures.journal in
    as_opened (λ (o : Options) (rs : List Request). IsWhole o rs (readings_of c.args.script.now) (d.may_leave c.play_opened.new.disk) kept.text.items (if kept.marked then 1 else 0))
    (options_in machine) options (requests_in machine) start c.in-Ok.ensures.opened.options_are requests (c.in-Ok-play_opened.ensures.whole is)

pub returns-in-Ok-play_opened-clause-stops : goal.returns-in-Ok-play_opened-clause-stops
returns-in-Ok-play_opened-clause-stops g c start were is =
    let d = g.D.Disk in
    let options = options_of c.args.config in
    let machine = c.in-Ok.machine in
    let kept = c.in-Ok-play_opened.kept in
    let requests = opened_requests d.moment d.left_since d.seen d.may_leave options start c.args.disk.now c.open_over.new.disk were (g.met.D.Disk.seen_may_stay c.args.disk.now) (requests_in machine) c.in-Ok.ensures.journal in
    as_opened (λ (o : Options) (rs : List Request). StopsAt o rs (readings_of c.args.script.now) (d.may_leave c.play_opened.new.disk) kept.text.items)
    (options_in machine) options (requests_in machine) start c.in-Ok.ensures.opened.options_are requests (c.in-Ok-play_opened.ensures.stops is)

pub returns-in-Ok-play_opened-clause-any_moment : goal.returns-in-Ok-play_opened-clause-any_moment
returns-in-Ok-play_opened-clause-any_moment g c start were =
    let d = g.D.Disk in
    let options = options_of c.args.config in
    let machine = c.in-Ok.machine in
    let readings = readings_of c.args.script.now in
    let stay = g.met.D.Disk.seen_may_stay c.args.disk.now in
    let requests = opened_requests d.moment d.left_since d.seen d.may_leave options start c.args.disk.now c.open_over.new.disk were stay (requests_in machine) c.in-Ok.ensures.journal in
    joined d.moment d.left_since c.args.disk.now c.open_over.new.disk c.play_opened.new.disk (IsJournalWithin options start (accepted options start readings))
    (opening_moments d.moment d.left_since d.seen d.may_leave options start c.args.disk.now c.open_over.new.disk were stay (accepted options start readings) c.open_over.ensures.any_moment)
    (as_opened (λ (o : Options) (rs : List Request). LeavesOnly d.moment d.left_since c.open_over.new.disk c.play_opened.new.disk (IsJournalWithin o rs (accepted o rs readings)))
    (options_in machine) options (requests_in machine) start c.in-Ok.ensures.opened.options_are requests c.play_opened.ensures.any_moment)

pub returns-in-Err-clause-any_moment : goal.returns-in-Err-clause-any_moment
returns-in-Err-clause-any_moment g c start were =
    let d = g.D.Disk in
    let options = options_of c.args.config in
    let machine = c.in-Ok.machine in
    let readings = readings_of c.args.script.now in
    let stay = g.met.D.Disk.seen_may_stay c.args.disk.now in
    let requests = opened_requests d.moment d.left_since d.seen d.may_leave options start c.args.disk.now c.open_over.new.disk were stay (requests_in machine) c.in-Ok.ensures.journal in
    joined d.moment d.left_since c.args.disk.now c.open_over.new.disk c.play_opened.new.disk (IsJournalWithin options start (accepted options start readings))
    (opening_moments d.moment d.left_since d.seen d.may_leave options start c.args.disk.now c.open_over.new.disk were stay (accepted options start readings) c.open_over.ensures.any_moment)
    (as_opened (λ (o : Options) (rs : List Request). LeavesOnly d.moment d.left_since c.open_over.new.disk c.play_opened.new.disk (IsJournalWithin o rs (accepted o rs readings)))
    (options_in machine) options (requests_in machine) start c.in-Ok.ensures.opened.options_are requests c.play_opened.ensures.any_moment)

pub returns-in-Err-Damaged-clause-any_moment : goal.returns-in-Err-Damaged-clause-any_moment
returns-in-Err-Damaged-clause-any_moment g c start were =
    let d = g.D.Disk in
    opening_moments d.moment d.left_since d.seen d.may_leave (options_of c.args.config) start c.args.disk.now c.open_over.new.disk were (g.met.D.Disk.seen_may_stay c.args.disk.now) _ c.open_over.ensures.any_moment

pub returns-in-Err-Disk-clause-not_opened : goal.returns-in-Err-Disk-clause-not_opened
returns-in-Err-Disk-clause-not_opened g c start were is =
    let d = g.D.Disk in
    opening_leaves d.moment d.left_since d.seen d.may_leave (options_of c.args.config) start c.args.disk.now c.open_over.new.disk were (g.met.D.Disk.seen_may_stay c.args.disk.now)
    (g.met.D.Disk.counts_now c.open_over.new.disk) c.open_over.ensures.any_moment

pub returns-in-Err-Disk-clause-any_moment : goal.returns-in-Err-Disk-clause-any_moment
returns-in-Err-Disk-clause-any_moment g c start were =
    let d = g.D.Disk in
    opening_moments d.moment d.left_since d.seen d.may_leave (options_of c.args.config) start c.args.disk.now c.open_over.new.disk were (g.met.D.Disk.seen_may_stay c.args.disk.now) _ c.open_over.ensures.any_moment

pub returns-in-Err-Memory-clause-any_moment : goal.returns-in-Err-Memory-clause-any_moment
returns-in-Err-Memory-clause-any_moment g c start were =
    let d = g.D.Disk in
    opening_moments d.moment d.left_since d.seen d.may_leave (options_of c.args.config) start c.args.disk.now c.open_over.new.disk were (g.met.D.Disk.seen_may_stay c.args.disk.now) _ c.open_over.ensures.any_moment

pub returns-in-Ok-play_opened-clause-calls : goal.returns-in-Ok-play_opened-clause-calls
returns-in-Ok-play_opened-clause-calls g c start were is =
    let d = g.D.Disk in
    let options = options_of c.args.config in
    let machine = c.in-Ok.machine in
    let readings = readings_of c.args.script.now in
    let old = c.args.disk.now in
    let mid = c.open_over.new.disk in
    let new = c.play_opened.new.disk in
    let requests = opened_requests d.moment d.left_since d.seen d.may_leave options start old mid were (g.met.D.Disk.seen_may_stay old) (requests_in machine) c.in-Ok.ensures.journal in
    runs_more d.does d.fails (calls_to_open (d.seen old)) (calls_to_keep (accepted options start readings)) old mid new
    (opens_for d.does d.fails d.seen old mid c.in-Ok.ensures.calls)
    (as_opened (λ (o : Options) (rs : List Request). RunsFor d.does d.fails (calls_to_keep (accepted o rs readings)) mid new)
    (options_in machine) options (requests_in machine) start c.in-Ok.ensures.opened.options_are requests (c.in-Ok-play_opened.ensures.calls is))

pub returns-in-Ok-play_opened-clause-stops_at_call : goal.returns-in-Ok-play_opened-clause-stops_at_call
returns-in-Ok-play_opened-clause-stops_at_call g c start were is =
    let d = g.D.Disk in
    let options = options_of c.args.config in
    let machine = c.in-Ok.machine in
    let kept = c.in-Ok-play_opened.kept in
    let old = c.args.disk.now in
    let mid = c.open_over.new.disk in
    let new = c.play_opened.new.disk in
    let requests = opened_requests d.moment d.left_since d.seen d.may_leave options start old mid were (g.met.D.Disk.seen_may_stay old) (requests_in machine) c.in-Ok.ensures.journal in
    record {
      disk = mid;
      opened = c.in-Ok.ensures.calls;
      stops = as_opened (λ (o : Options) (rs : List Request). StopsAtCall d.does d.fails d.seen d.may_leave o rs (readings_of c.args.script.now) kept.marked kept.text.items mid new)
          (options_in machine) options (requests_in machine) start c.in-Ok.ensures.opened.options_are requests (c.in-Ok-play_opened.ensures.stops_at_call is);
    }

pub returns-in-Err-Disk-clause-stops_opening : goal.returns-in-Err-Disk-clause-stops_opening
returns-in-Err-Disk-clause-stops_opening g c is =
    let d = g.D.Disk in
    fails_to_open d.does d.fails (d.seen c.args.disk.now) c.args.disk.now c.open_over.new.disk _ c.in-Err-Disk.field-0-is c.in-Err-Disk.ensures.stops

pub returns-in-Err-clause-memory_stays : goal.returns-in-Err-clause-memory_stays
returns-in-Err-clause-memory_stays g c is damaged =
    absurd (not_both (options_of c.args.config) (g.D.Disk.seen c.args.disk.now) (requests_in c.in-Ok.machine) c.in-Ok.ensures.journal damaged)

pub returns-in-Err-Memory-clause-memory_stays : goal.returns-in-Err-Memory-clause-memory_stays
returns-in-Err-Memory-clause-memory_stays g c is damaged =
    let d = g.D.Disk in
    still_unopened d.seen d.may_leave d.moment d.left_since c.args.disk.now c.open_over.new.disk _ c.in-Err-Memory.field-0-is c.in-Err-Memory.ensures.stays
