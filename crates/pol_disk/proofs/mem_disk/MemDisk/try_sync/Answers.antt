use Rattle.std.proofs.Common.{◌≡◌, ◌≤◌, ℕ, List, [], ◌∷◌, ◌++◌, length, ◌∙◌, ap, subst, rules, vec_capacity}
use Rattle.pol_disk.specs.declared.call.DiskCall.{DiskCall}
use Rattle.pol_disk.specs.declared.call.DiskCall.TheVariants.{Sync}
use Rattle.pol_disk.proofs.Keeping.{keeps_sync}
use Rattle.pol_disk.proofs.mem_disk.MemDisk.try_sync.Goals as goal

pub invariant_of-self-2 : goal.invariant_of-self-2
invariant_of-self-2 c =
    let inv = c.self.invariant in
    let past_is = c.push_reserved.ensures.items ∙ ap (λ (l : List DiskCall). l ++ Sync ∷ []) c.make_room.ensures.same in
    let fits_back = subst (λ (b : List ℕ). length b ≤ vec_capacity c.self.inside.bytes) c.copy_tail.ensures.equal c.copy_tail.ensures.fits_back in
    let len : c.len-self-inside.result ≡ length c.self.inside.bytes.items = search rules in
    rw (past_is, c.copy_tail.ensures.equal, len) (keeps_sync _ _ _ _ _ inv.0, λ no. absurd (cc), c.copy_tail.ensures.fits, fits_back)
