use Rattle.std.proofs.Common.{◌≤◌, ℕ, List, [], ◌∷◌, ◌++◌, length, sym, ◌∙◌, ap, subst, arith, length-take}
use Rattle.pol_disk.specs.declared.call.DiskCall.{DiskCall}
use Rattle.pol_disk.specs.declared.call.DiskCall.TheVariants.{Cut}
use Rattle.pol_disk.specs.MemDisk.{bytes_in}
use Rattle.pol_disk.proofs.Keeping.{keeps_cut}
use Rattle.pol_disk.proofs.mem_disk.MemDisk.try_cut.Goals as goal

pub invariant_of-self-2 : goal.invariant_of-self-2
invariant_of-self-2 c =
    let inv = c.self.invariant in
    let len = c.args.len in
    let le = subst (λ (b : List ℕ). len ≤ length b) (sym (inv.0.bytes_are ∙ ap bytes_in c.self.view_is)) c.requires in
    let past_is = c.push_reserved.ensures.items ∙ ap (λ (l : List DiskCall). l ++ Cut len ∷ []) c.make_room.ensures.same in
    rw (past_is, c.truncate.ensures.items, c.min-self-inside.ensures) (
      keeps_cut _ _ _ _ _ inv.0 len le,
      λ yes. omega (arith, c.push_reserved.ensures.len, c.push_reserved.ensures.capacity, c.in_ok-make_room.ensures.ok),
      omega (arith, length-take len c.self.inside.bytes.items, inv.2),
      omega (arith, c.truncate.ensures.capacity, inv.3),
    )
