use Rattle.std.proofs.Common.{IsErrOf, OnOk, subst}
use Rattle.pol_disk.specs.Calls.{Runs, StopsIn}
use Rattle.pol_kept.specs.Calls.{calls_of_commit}
use Rattle.pol_kept.specs.Kept.{KeptState}
use Rattle.pol_kept.specs.declared.error.KeptError.TheVariants as kept
use Rattle.pol_kept.proofs.kept.Kept.commit.Goals as goal

pub returns-clause-calls : goal.returns-clause-calls
returns-clause-calls g c =
    let d = g.D.Disk in
    let done = c.commit_over-done in
    subst (λ (k : KeptState g.row.D.Denot). OnOk done.result (Runs d.does d.fails k.disk (calls_of_commit (d.seen k.disk) c.args.line.now) done.new.disk))
    c.self.view_is done.ensures.calls

pub returns-clause-stops : goal.returns-clause-stops
returns-clause-stops g c =
    let d = g.D.Disk in
    let done = c.commit_over-done in
    subst (λ (k : KeptState g.row.D.Denot). IsErrOf done.result kept.Disk → StopsIn d.does d.fails k.disk (calls_of_commit (d.seen k.disk) c.args.line.now) done.new.disk)
    c.self.view_is done.ensures.stops
