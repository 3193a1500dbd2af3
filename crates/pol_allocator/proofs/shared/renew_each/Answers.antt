use Rattle.std.proofs.Common.{◌+◌, drop, refl, sym, arith}
use Rattle.pol_allocator.specs.Sharing.{is_of}
use Rattle.pol_allocator.proofs.Sharing.{at_end, at_next, renewed_less}
use Rattle.pol_allocator.proofs.shared.renew_each.Goals as goal

pub loop-prefix-preserved : goal.loop-prefix-preserved
loop-prefix-preserved c =
    let rows = c.args.identities.now in
    let all = c.args.prefixes.now in
    let i = c.loop-prefix.prefix-index in
    let prefix = c.prefix-item.result in
    renewed_less prefix rows (drop (i + 1) all) c.loop-prefix.table c.renew.new.table
    (at_next is_of rows all i c.loop-prefix.table prefix (omega arith) (sym c.prefix-item.is) c.loop-prefix.invariant) c.in_ok-renew.ensures.ok

pub returns : goal.returns
returns c = record {
  ok = at_end is_of c.args.identities.now c.args.prefixes.now c.loop-prefix.prefix-index c.loop-prefix.table (λ own. refl) (omega arith) c.loop-prefix.invariant;
}
