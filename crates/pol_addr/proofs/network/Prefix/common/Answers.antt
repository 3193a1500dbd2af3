use Rattle.std.proofs.Common.{sym, ◌∙◌, arith}
use Rattle.pol_addr.proofs.ByFamily.{IsPrefix-cleared}
use Rattle.pol_addr.proofs.Containment.{covers_from, covers-parts}
use Rattle.pol_addr.proofs.network.Prefix.common.Goals as goal

pub invariant_of-result : goal.invariant_of-result
invariant_of-result c =
    let valid = c.self.invariant in
    rw c.clear_host_bits.ensures.value (IsPrefix-cleared c.shared_len-len.result c.self.inside.addr (omega (arith, valid.len_in_range, c.shared_len-len.ensures.within)) valid.addr_in_range)

pub returns-clause-this : goal.returns-clause-this
returns-clause-this c =
    covers_from _ c.args.self.now (rw (← c.self.view_is) (omega arith)) (rw (← c.self.view_is) (sym c.clear_host_bits.ensures.value))

pub returns-clause-that : goal.returns-clause-that
returns-clause-that c =
    covers_from _ c.args.other.now (rw (← c.other.view_is) (omega arith)) (rw (← c.other.view_is) (sym (c.clear_host_bits.ensures.value ∙ c.shared_len-len.ensures.shared)))

pub returns-clause-longest : goal.returns-clause-longest
returns-clause-longest c = λ p this that.
    let (short, addr) = rw (← c.self.view_is) at (covers-parts p c.args.self.now this) in
    let (short', addr') = rw (← c.other.view_is) at (covers-parts p c.args.other.now that) in
    c.shared_len-len.ensures.longest p.len (omega (arith, short, short')) (addr ∙ sym addr')
