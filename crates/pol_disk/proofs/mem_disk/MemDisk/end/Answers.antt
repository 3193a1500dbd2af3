use Rattle.std.proofs.Common.{◌≡◌, ◌≤◌, ℕ, List, length, ◌∙◌, subst, rules, vec_capacity}
use Rattle.pol_disk.proofs.Calls.{crash_settles, kept_is_image}
use Rattle.pol_disk.proofs.Keeping.{keeps_crash, kept_items}
use Rattle.pol_disk.proofs.mem_disk.MemDisk.end.Goals as goal

pub invariant_of-self : goal.invariant_of-self
invariant_of-self c =
    let inv = c.self.invariant in
    let kept = c.make_equal.ensures.bytes ∙ kept_items _ _ _ _ _ inv.0 c.args.keep in
    let len : c.len-self-inside.result ≡ length c.make_equal.new.bytes.items = search rules in
    rw (c.push_reserved.ensures.items, c.make_equal.ensures.synced, len) (
      keeps_crash _ c.args.keep _ kept,
      λ no. absurd (cc),
      c.make_equal.ensures.bytes_fit,
      subst (λ (b : List ℕ). length b ≤ vec_capacity c.make_equal.new.bytes) c.make_equal.ensures.synced c.make_equal.ensures.synced_fit,
    )

pub returns-then-self-clause-kept : goal.returns-then-self-clause-kept
returns-then-self-clause-kept c =
    rw (← c.self.view_is, c.push_reserved.ensures.items) (crash_settles _ c.args.keep)

pub returns-then-self-clause-image : goal.returns-then-self-clause-image
returns-then-self-clause-image c =
    let settled = crash_settles c.self.inside.past.items c.args.keep in
    rw (← c.self.view_is, c.push_reserved.ensures.items, settled.read) (kept_is_image c.self.inside.past.items c.args.keep)
