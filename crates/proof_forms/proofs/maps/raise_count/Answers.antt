use Rattle.std.proofs.Common.{◌+◌, is_some, sym, ap, unwrap_or, arith}
use Rattle.proof_forms.proofs.Counts.{written_is}
use Rattle.proof_forms.proofs.maps.raise_count.Goals as goal

pub raise-requires : goal.raise-requires
raise-requires c = let is = ap (λ o. unwrap_or o 0) c.in-Some.ensures.value in omega (arith, is)

pub returns : goal.returns
returns c =
    let w = c.raise.new.count in
    written_is c.args.counts.now (c.get_mut.follows.lender w) c.args.number c.in-Some.count.now w (λ n. n + 1) (sym c.in-Some.ensures.value) c.raise.ensures
    ((c.get_mut.follows.holds w).3 (ap is_some (sym c.in-Some.ensures.value))).0
