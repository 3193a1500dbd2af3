use Rattle.std.proofs.Common.{◌≡◌, ◌+◌, ℕ, List, [], ◌∷◌, take, sym, ap, ◌∙◌, subst}
use Rattle.pol_disk.specs.Calls.{Cuts, Runs, StopsIn, Syncs}
use Rattle.pol_disk.specs.Images.{CutShort}
use Rattle.pol_disk.proofs.Moments.{widened}
use Rattle.pol_journal.specs.Journal.{IsJournal}
use Rattle.pol_kept.specs.Keeps.{SameJournal, requests_in}
use Rattle.pol_kept.proofs.Openings.{cut_place, cut_read, read_journal, while_cut}
use Rattle.pol_machine.specs.Stands.{options_in}
use Rattle.pol_record_log.specs.Log.{last_gate}
use Rattle.pol_record_log.specs.Steps.{cut_to_log}
use Rattle.pol_kept.proofs.opening.open_bytes.Goals as goal

pub returns-in-Ok-cut_synced-clause-journal : goal.returns-in-Ok-cut_synced-clause-journal
returns-in-Ok-cut_synced-clause-journal g c =
    let options = options_in c.args.machine.now in
    subst (λ (b : List ℕ). IsJournal options (requests_in c.replay.new.machine) b) c.requires.bytes
    (read_journal options c.args.bytes.now c.in-Ok.end c.replay.new.machine c.in-Ok.ensures.ok c.in-Ok.ensures.closed)

pub returns-in-Ok-cut_synced-clause-cut : goal.returns-in-Ok-cut_synced-clause-cut
returns-in-Ok-cut_synced-clause-cut g c =
    let end = c.in-Ok.end in
    c.in-Ok-cut_synced.ensures.ok.read ∙ ap (take (end + 1)) (sym c.requires.bytes)
    ∙ cut_read (options_in c.args.machine.now) c.args.bytes.now end c.replay.new.machine c.in-Ok.ensures.ok c.in-Ok.ensures.closed
    ∙ ap cut_to_log c.requires.bytes

pub returns-in-Ok-cut_synced-clause-calls : goal.returns-in-Ok-cut_synced-clause-calls
returns-in-Ok-cut_synced-clause-calls g c =
    let d = g.D.Disk in
    subst (λ (n : ℕ). Runs d.does d.fails c.args.disk.now (Cuts n ∷ Syncs ∷ []) c.cut_synced.new.disk)
    (cut_place (options_in c.args.machine.now) c.args.bytes.now c.in-Ok.end c.replay.new.machine c.in-Ok.ensures.ok c.in-Ok.ensures.closed
    ∙ ap (λ (b : List ℕ). last_gate b + 1) c.requires.bytes)
    c.in-Ok-cut_synced.ensures.calls

pub returns-in-Err-cut_synced-clause-stops : goal.returns-in-Err-cut_synced-clause-stops
returns-in-Err-cut_synced-clause-stops g c =
    let d = g.D.Disk in
    subst (λ (n : ℕ). StopsIn d.does d.fails c.args.disk.now (Cuts n ∷ Syncs ∷ []) c.cut_synced.new.disk)
    (cut_place (options_in c.args.machine.now) c.args.bytes.now c.in-Ok.end c.replay.new.machine c.in-Ok.ensures.ok c.in-Ok.ensures.closed
    ∙ ap (λ (b : List ℕ). last_gate b + 1) c.requires.bytes)
    c.in-Err-cut_synced.ensures.calls

pub returns-in-Ok-cut_synced-clause-any_moment : goal.returns-in-Ok-cut_synced-clause-any_moment
returns-in-Ok-cut_synced-clause-any_moment g c =
    let d = g.D.Disk in
    let options = options_in c.args.machine.now in
    let old = d.seen c.args.disk.now in
    widened d.moment d.left_since c.args.disk.now c.cut_synced.new.disk (CutShort (c.in-Ok.end + 1) old) (SameJournal options old) c.cut_synced.ensures.any_moment
    (subst (λ (b : List ℕ). (f : List ℕ) → CutShort (c.in-Ok.end + 1) b f → SameJournal options b f) c.requires.bytes
    (while_cut options c.args.bytes.now c.in-Ok.end c.replay.new.machine c.in-Ok.ensures.ok c.in-Ok.ensures.closed))

pub returns-in-Err-cut_synced-clause-any_moment : goal.returns-in-Err-cut_synced-clause-any_moment
returns-in-Err-cut_synced-clause-any_moment g c =
    let d = g.D.Disk in
    let options = options_in c.args.machine.now in
    let old = d.seen c.args.disk.now in
    widened d.moment d.left_since c.args.disk.now c.cut_synced.new.disk (CutShort (c.in-Ok.end + 1) old) (SameJournal options old) c.cut_synced.ensures.any_moment
    (subst (λ (b : List ℕ). (f : List ℕ) → CutShort (c.in-Ok.end + 1) b f → SameJournal options b f) c.requires.bytes
    (while_cut options c.args.bytes.now c.in-Ok.end c.replay.new.machine c.in-Ok.ensures.ok c.in-Ok.ensures.closed))
