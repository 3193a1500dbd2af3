use Rattle.std.proofs.Common.{◌≤◌, ℕ, List, [], ◌∷◌, ◌++◌, length, sym, ◌∙◌, ap, subst, arith}
use Rattle.pol_disk.specs.Images.{overwritten}
use Rattle.pol_disk.specs.MemDisk.{bytes_in}
use Rattle.pol_disk.proofs.Calls.{length-overwritten}
use Rattle.pol_disk.proofs.Keeping.{keeps_write}
use Rattle.pol_disk.proofs.mem_disk.MemDisk.try_write.Goals as goal

pub invariant_of-self-2 : goal.invariant_of-self-2
invariant_of-self-2 c =
    let inv = c.self.invariant in
    let at = c.args.at in
    let new = c.args.bytes.now in
    let le = subst (λ (b : List ℕ). at ≤ length b) (sym (inv.0.bytes_are ∙ ap bytes_in c.self.view_is)) c.requires.place in
    let past_is = c.push_reserved.ensures.items ∙ (λ i. c.make_room.ensures.same i ++ c.in_ok-call.ensures i ∷ []) in
    let bytes_are = c.overwrite.ensures.written ∙ ap (λ (b : List ℕ). overwritten b at new) c.make_bytes_room.ensures.bytes in
    rw (past_is, bytes_are, c.make_bytes_room.ensures.synced, c.min-self-inside.ensures) (
      keeps_write _ _ _ _ _ inv.0 at new le,
      λ yes. omega (arith, c.push_reserved.ensures.len, c.push_reserved.ensures.capacity, c.in_ok-make_room.ensures.ok),
      omega (arith, length-overwritten c.self.inside.bytes.items at new le, c.in_ok-make_bytes_room.ensures.synced_ok, c.make_bytes_room.ensures.synced_kept, inv.2),
      omega (arith, c.overwrite.ensures.kept, c.make_bytes_room.ensures.bytes_kept, inv.3),
    )
