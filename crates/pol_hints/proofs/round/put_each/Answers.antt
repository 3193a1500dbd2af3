use Rattle.std.proofs.Common.{◌≡◌, ◌-◌, ◌∙◌, ap, arith, length, subst, sym, true≢false, ℕ}
use Rattle.circular_buffer.specs.Buffer.{Buffer}
use Rattle.pol_hints.proofs.Below.{full_here, one_more, put_some_of}
use Rattle.pol_hints.proofs.round.put_each.Goals as goal

pub loop-slot-preserved : goal.loop-slot-preserved
loop-slot-preserved c =
    let so_far = c.loop-slot.invariant in
    let is = c.in-Ok.ensures.ok in
    record {
      within = (let within = so_far.within in omega (arith, within));
      room = ap (λ (b : Buffer ℕ). b.capacity) is ∙ so_far.room;
      put = one_more c.args.waiting.now c.loop-slot.waiting c.try_push_back.new.self c.args.from c.loop-slot.slot so_far.within is so_far.put;
    }

pub returns-in-Err-clause-put : goal.returns-in-Err-clause-put
returns-in-Err-clause-put c =
    let so_far = c.loop-slot.invariant in
    let is = c.in-Err.ensures.err.1 in
    let within = so_far.within in
    let less = c.loop-slot-test.true in
    let len = c.len.ensures.len in
    let most = c.len.ensures.within.0 in
    put_some_of c.args.waiting.now c.try_push_back.new.self c.args.from (c.args.to - c.args.from) (c.loop-slot.slot - c.args.from) (omega (arith, within, less))
    (ap (λ (b : Buffer ℕ). b.items) is ∙ so_far.put) (ap (λ (b : Buffer ℕ). b.capacity) is ∙ so_far.room)
    (subst (λ (b : Buffer ℕ). length b.items ≡ b.capacity) (sym is) (full_here c.loop-slot.waiting (λ less. true≢false (sym (c.in-Err.ensures.variant.1 less))) (omega (arith, len, most))))
