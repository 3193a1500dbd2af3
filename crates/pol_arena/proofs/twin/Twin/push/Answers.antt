use Rattle.std.proofs.Common.{ap, ◌∙◌, refl, arith}
use Rattle.pol_arena.proofs.Kept.{kept_sound}
use Rattle.pol_arena.proofs.Changes.{kept_push, kept_free}
use Rattle.pol_arena.proofs.twin.Twin.push.Goals as goal

pub invariant_of-self : goal.invariant_of-self
invariant_of-self g c =
    let chains = ap (λ t. t.chains) c.self.view_is in
    let spare = ap (λ t. t.spare) c.self.view_is in
    rw (c.push_front_reserved.ensures.items, c.push_front_reserved.ensures.capacity, c.gap_before-gap.ensures)
    (kept_push c.self.invariant c.args.chain c.args.value c.index-head.result.now c.len.result c.index-head.ensures (omega arith) (omega arith) (c.len.ensures ∙ c.self.inside.nodes.ok.0))

pub returns-clause-was_free : goal.returns-clause-was_free
returns-clause-was_free g c = kept_free c.self.invariant c.args.self.now.ages (ap (λ t. t.ages) c.self.view_is)

pub returns-clause-sound : goal.returns-clause-sound
returns-clause-sound g c = kept_sound (invariant_of-self g c) _ refl
