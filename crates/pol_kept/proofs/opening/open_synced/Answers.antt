use Rattle.std.proofs.Common.{◌≡◌, ◌+◌, nat_le, false, [], ◌∷◌, length, rules}
use Rattle.std.proofs.lemmas.Result.{IfErr-weaker}
use Rattle.pol_disk.specs.Calls.{Cuts, Reads, Syncs}
use Rattle.pol_kept.specs.Calls.{FailsToOpen, calls_of_synced}
use Rattle.pol_kept.proofs.Plans.{fails_long}
use Rattle.pol_record_log.specs.Log.{last_gate}
use Rattle.pol_kept.proofs.opening.open_synced.Goals as goal

pub returns-else-len-le1-clause-stops : goal.returns-else-len-le1-clause-stops
returns-else-len-le1-clause-stops g c =
    let d = g.D.Disk in
    let bytes = d.seen c.args.disk.now in
    let first = c.args.disk.now in
    let last = c.open_long.new.disk in
    let reading = Reads 0 (length bytes) ∷ [] in
    let long : nat_le (length bytes) 1 ≡ false = search rules in
    IfErr-weaker c.open_long.result
    (λ why. FailsToOpen d.does d.fails reading (Reads 0 (length bytes) ∷ Cuts (last_gate bytes + 1) ∷ Syncs ∷ []) first why last)
    (λ why. FailsToOpen d.does d.fails reading (calls_of_synced bytes) first why last)
    (λ why. fails_long d.does d.fails reading bytes why first last long)
    c.open_long.ensures.stops
