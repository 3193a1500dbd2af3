use Rattle.std.proofs.Common.{sym, ◌∙◌, arith}
use Rattle.std.proofs.lemmas.Bool.{both_ways}
use Rattle.pol_addr.proofs.ByFamily.{len_from_differ, same_addr_from}
use Rattle.pol_addr.proofs.network.shared_len.Goals as goal

pub overflow_sub-len : goal.overflow_sub-len
overflow_sub-len c =
    len_from_differ c.loop-a.len c.args.a c.args.b c.requires.within c.requires.within_too c.requires.family
    (λ same. both_ways _ c.loop-a-test.true (c.begins_with.ensures ∙ same_addr_from _ _ (same ∙ sym c.clear_host_bits.ensures.value)))

pub loop-a-smaller : goal.loop-a-smaller
loop-a-smaller c = let some = overflow_sub-len c in omega (arith, some)
