use Rattle.std.proofs.Common.{◌≡◌, ◌<◌, ◌+◌, ℕ, List, [], ◌∷◌, length, sym, ◌∙◌, subst}
use Rattle.std.specs.Prelude.{OnOk}
use Rattle.std.proofs.lemmas.Result.{IfErr-weaker, on_ok_weaker}
use Rattle.pol_disk.proofs.Moments.{joined, widened}
use Rattle.pol_kept.specs.Keeps.{SameJournal}
use Rattle.pol_kept.proofs.Openings.{left_same}
use Rattle.pol_machine.specs.Stands.{options_in}
use Rattle.pol_disk.specs.Calls.{Cuts, Reads, Runs, Syncs}
use Rattle.pol_kept.specs.Calls.{FailsToOpen}
use Rattle.pol_record_log.specs.Log.{last_gate}
use Rattle.pol_record_log.specs.Steps.{cut_to_log}
use Rattle.pol_kept.proofs.Plans.{fails_behind, runs_behind}
use Rattle.pol_kept.proofs.opening.open_long.Goals as goal

pub open_bytes-requires-clause-bytes : goal.open_bytes-requires-clause-bytes
open_bytes-requires-clause-bytes g c = c.as_slice.ensures.value ∙ c.in-Ok.ensures.read ∙ sym c.in-Ok.ensures.same

pub open_bytes-requires-clause-long : goal.open_bytes-requires-clause-long
open_bytes-requires-clause-long g c = subst (λ (b : List ℕ). 1 < length b) (sym c.in-Ok.ensures.same) c.requires.long

pub open_bytes-requires-clause-settled : goal.open_bytes-requires-clause-settled
open_bytes-requires-clause-settled g c = λ f now. c.requires.settled f (c.read_bytes.ensures.crash f now) ∙ sym c.in-Ok.ensures.same

pub returns-in-Ok-clause-any_moment : goal.returns-in-Ok-clause-any_moment
returns-in-Ok-clause-any_moment g c =
    let d = g.D.Disk in
    let options = options_in c.args.machine.now in
    let old = d.seen c.args.disk.now in
    let P : List ℕ → Type 0 = SameJournal options old in
    joined d.moment d.left_since c.args.disk.now c.read_bytes.new.disk c.open_bytes.new.disk P
    (widened d.moment d.left_since c.args.disk.now c.read_bytes.new.disk (d.may_leave c.args.disk.now) P c.read_bytes.ensures.any_moment
    (left_same d.may_leave options old c.args.disk.now c.requires.settled))
    (widened d.moment d.left_since c.read_bytes.new.disk c.open_bytes.new.disk (SameJournal options (d.seen c.read_bytes.new.disk)) P c.open_bytes.ensures.any_moment
    (λ f same. subst (λ (b : List ℕ). SameJournal options b f) c.in-Ok.ensures.same same))

pub returns-in-Err-Disk-clause-any_moment : goal.returns-in-Err-Disk-clause-any_moment
returns-in-Err-Disk-clause-any_moment g c =
    let d = g.D.Disk in
    let options = options_in c.args.machine.now in
    let old = d.seen c.args.disk.now in
    widened d.moment d.left_since c.args.disk.now c.read_bytes.new.disk (d.may_leave c.args.disk.now) (SameJournal options old) c.read_bytes.ensures.any_moment
    (left_same d.may_leave options old c.args.disk.now c.requires.settled)

pub returns-in-Err-Memory-clause-any_moment : goal.returns-in-Err-Memory-clause-any_moment
returns-in-Err-Memory-clause-any_moment g c =
    let d = g.D.Disk in
    let options = options_in c.args.machine.now in
    let old = d.seen c.args.disk.now in
    widened d.moment d.left_since c.args.disk.now c.read_bytes.new.disk (d.may_leave c.args.disk.now) (SameJournal options old) c.read_bytes.ensures.any_moment
    (left_same d.may_leave options old c.args.disk.now c.requires.settled)

pub returns-in-Ok-clause-stops : goal.returns-in-Ok-clause-stops
returns-in-Ok-clause-stops g c =
    let d = g.D.Disk in
    let bytes = d.seen c.args.disk.now in
    let read = Reads 0 (length bytes) in
    let cuts = Cuts (last_gate bytes + 1) ∷ Syncs ∷ [] in
    let mid = c.read_bytes.new.disk in
    let last = c.open_bytes.new.disk in
    IfErr-weaker c.open_bytes.result
    (λ why. FailsToOpen d.does d.fails [] (Cuts (last_gate (d.seen mid) + 1) ∷ Syncs ∷ []) mid why last)
    (λ why. FailsToOpen d.does d.fails (read ∷ []) (read ∷ cuts) c.args.disk.now why last)
    (λ why fails. fails_behind d.does d.fails read [] cuts why c.args.disk.now mid last c.in-Ok.ensures.calls
    (subst (λ (b : List ℕ). FailsToOpen d.does d.fails [] (Cuts (last_gate b + 1) ∷ Syncs ∷ []) mid why last) c.in-Ok.ensures.same fails))
    c.open_bytes.ensures.stops

pub returns-in-Ok-clause-cut : goal.returns-in-Ok-clause-cut
returns-in-Ok-clause-cut g c =
    let d = g.D.Disk in
    subst (λ (b : List ℕ). OnOk c.open_bytes.result (d.seen c.open_bytes.new.disk ≡ cut_to_log b)) c.in-Ok.ensures.same c.open_bytes.ensures.cut

pub returns-in-Ok-clause-calls : goal.returns-in-Ok-clause-calls
returns-in-Ok-clause-calls g c =
    let d = g.D.Disk in
    let bytes = d.seen c.args.disk.now in
    let cuts = Cuts (last_gate bytes + 1) ∷ Syncs ∷ [] in
    let mid = c.read_bytes.new.disk in
    let last = c.open_bytes.new.disk in
    let behind : Runs d.does d.fails mid cuts last → Runs d.does d.fails c.args.disk.now (Reads 0 (length bytes) ∷ cuts) last =
    λ runs. runs_behind d.does d.fails (Reads 0 (length bytes)) cuts c.args.disk.now mid last c.in-Ok.ensures.calls runs in
    on_ok_weaker c.open_bytes.result behind
    (subst (λ (b : List ℕ). OnOk c.open_bytes.result (Runs d.does d.fails mid (Cuts (last_gate b + 1) ∷ Syncs ∷ []) last)) c.in-Ok.ensures.same c.open_bytes.ensures.calls)
