use Rattle.std.proofs.Common.{ℕ, List, [], ◌∷◌, length, inl, inr, ap, ◌∙◌, subst}
use Rattle.pol_disk.proofs.Moments.{joined, widened}
use Rattle.pol_kept.specs.Keeps.{KeepsJournal, SameJournal}
use Rattle.pol_machine.specs.Stands.{options_in}
use Rattle.pol_disk.specs.Calls.{Reads, Runs, Syncs}
use Rattle.pol_kept.specs.Calls.{FailsToOpen, calls_of_synced}
use Rattle.pol_kept.proofs.Openings.{holds_behind}
use Rattle.pol_kept.proofs.Plans.{fails_at_once, fails_behind, runs_behind}
use Rattle.pol_record_log.specs.Steps.{cut_to_log}
use Rattle.pol_kept.proofs.opening.open_with.Goals as goal

pub returns-in-Ok-open_synced-clause-any_moment : goal.returns-in-Ok-open_synced-clause-any_moment
returns-in-Ok-open_synced-clause-any_moment g c =
    let d = g.D.Disk in
    let options = options_in c.args.machine in
    let old = d.seen c.args.disk.now in
    let might = d.may_leave c.args.disk.now in
    let P : List ℕ → Type 0 = KeepsJournal options old might in
    joined d.moment d.left_since c.args.disk.now c.sync.new.disk c.open_synced.new.disk P
    (widened d.moment d.left_since c.args.disk.now c.sync.new.disk might P c.sync.ensures.any_moment (λ f left. inl left))
    (widened d.moment d.left_since c.sync.new.disk c.open_synced.new.disk (SameJournal options (d.seen c.sync.new.disk)) P c.open_synced.ensures.any_moment
    (λ f same. inr (subst (λ (b : List ℕ). SameJournal options b f) c.in-Ok.ensures.ok.read same)))

pub returns-in-Err-open_synced-clause-any_moment : goal.returns-in-Err-open_synced-clause-any_moment
returns-in-Err-open_synced-clause-any_moment g c =
    let d = g.D.Disk in
    let options = options_in c.args.machine in
    let old = d.seen c.args.disk.now in
    let might = d.may_leave c.args.disk.now in
    let P : List ℕ → Type 0 = KeepsJournal options old might in
    joined d.moment d.left_since c.args.disk.now c.sync.new.disk c.open_synced.new.disk P
    (widened d.moment d.left_since c.args.disk.now c.sync.new.disk might P c.sync.ensures.any_moment (λ f left. inl left))
    (widened d.moment d.left_since c.sync.new.disk c.open_synced.new.disk (SameJournal options (d.seen c.sync.new.disk)) P c.open_synced.ensures.any_moment
    (λ f same. inr (subst (λ (b : List ℕ). SameJournal options b f) c.in-Ok.ensures.ok.read same)))

pub returns-in-Err-clause-any_moment : goal.returns-in-Err-clause-any_moment
returns-in-Err-clause-any_moment g c =
    let d = g.D.Disk in
    let might = d.may_leave c.args.disk.now in
    let P : List ℕ → Type 0 = KeepsJournal (options_in c.args.machine) (d.seen c.args.disk.now) might in
    widened d.moment d.left_since c.args.disk.now c.sync.new.disk might P c.sync.ensures.any_moment (λ f left. inl left)

pub returns-in-Ok-open_synced-clause-cut : goal.returns-in-Ok-open_synced-clause-cut
returns-in-Ok-open_synced-clause-cut g c = c.in-Ok-open_synced.ensures.cut ∙ ap cut_to_log c.in-Ok.ensures.ok.read

pub returns-in-Ok-open_synced-clause-calls : goal.returns-in-Ok-open_synced-clause-calls
returns-in-Ok-open_synced-clause-calls g c =
    let d = g.D.Disk in
    let mid = c.sync.new.disk in
    let last = c.open_synced.new.disk in
    runs_behind d.does d.fails Syncs (calls_of_synced (d.seen c.args.disk.now)) c.args.disk.now mid last c.in-Ok.ensures.calls
    (subst (λ (b : List ℕ). Runs d.does d.fails mid (calls_of_synced b) last) c.in-Ok.ensures.ok.read c.in-Ok-open_synced.ensures.calls)

pub returns-in-Err-open_synced-clause-stops : goal.returns-in-Err-open_synced-clause-stops
returns-in-Err-open_synced-clause-stops g c =
    let d = g.D.Disk in
    let old = d.seen c.args.disk.now in
    let why = c.in-Err-open_synced.why in
    let last = c.open_synced.new.disk in
    fails_behind d.does d.fails Syncs (Reads 0 (length old) ∷ []) (calls_of_synced old) why c.args.disk.now c.sync.new.disk last c.in-Ok.ensures.calls
    (subst (λ (b : List ℕ). FailsToOpen d.does d.fails (Reads 0 (length b) ∷ []) (calls_of_synced b) c.sync.new.disk why last)
    c.in-Ok.ensures.ok.read c.in-Err-open_synced.ensures.stops)

pub returns-in-Err-clause-stops : goal.returns-in-Err-clause-stops
returns-in-Err-clause-stops g c =
    let d = g.D.Disk in
    fails_at_once d.does d.fails Syncs (calls_of_synced (d.seen c.args.disk.now)) c.args.disk.now c.sync.new.disk c.in-Err.ensures.calls

pub returns-in-Err-open_synced-clause-stays : goal.returns-in-Err-open_synced-clause-stays
returns-in-Err-open_synced-clause-stays g c =
    let d = g.D.Disk in
    holds_behind d.seen d.may_leave d.moment d.left_since c.args.disk.now c.sync.new.disk c.open_synced.new.disk c.in-Ok.ensures.ok
    (g.met.D.Disk.seen_may_stay c.args.disk.now) c.sync.ensures.any_moment c.in-Err-open_synced.why c.in-Err-open_synced.ensures.stays
