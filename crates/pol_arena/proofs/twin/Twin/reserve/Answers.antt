use Rattle.std.proofs.Common.{ap, refl, length, arith}
use Rattle.pol_arena.proofs.Kept.{kept_sound, length_ages}
use Rattle.pol_arena.proofs.Changes.{kept_room, kept_chains}
use Rattle.pol_arena.proofs.twin.Twin.reserve.Goals as goal

pub returns-in_err-reserve-clause-sound : goal.returns-in_err-reserve-clause-sound
returns-in_err-reserve-clause-sound g c =
    kept_sound (kept_room c.self.invariant c.reserve.new.self.items _ _ c.reserve.ensures.items refl c.reserve.ensures.capacity) _ refl

pub returns-in_err-make_chains-clause-sound : goal.returns-in_err-make_chains-clause-sound
returns-in_err-make_chains-clause-sound g c =
    kept_sound (kept_room c.self.invariant c.reserve.new.self.items c.make_chains.new.newest.items _ c.reserve.ensures.items c.in_err-make_chains.ensures.err c.reserve.ensures.capacity) _ refl

pub invariant_of-self-2 : goal.invariant_of-self-2
invariant_of-self-2 g c =
    let kept = kept_room c.self.invariant c.reserve.new.self.items c.self.inside.newest.items _ c.reserve.ensures.items refl c.reserve.ensures.capacity in
    let fits = kept.fits in
    let room = kept.room in
    let more = c.in_ok-reserve.ensures.ok in
    let len = c.reserve.new.self.ok.0 in
    let ages = ap length (ap (λ t. t.ages) c.self.view_is) in
    let size = length_ages c.self.inside.nodes.items c.self.inside.last in
    let same = ap length c.reserve.ensures.items in
    rw c.max-self-inside.ensures (kept_chains kept c.make_chains.new.newest.items _ _ c.in_ok-make_chains.ensures.ok (omega arith) (omega arith))

pub returns-clause-sound : goal.returns-clause-sound
returns-clause-sound g c = kept_sound (invariant_of-self-2 g c) _ refl
