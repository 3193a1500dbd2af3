use Rattle.std.proofs.Common.{◌+◌, drop, refl, sym, arith}
use Rattle.pol_allocator.specs.Sharing.{is_gone}
use Rattle.pol_allocator.proofs.Sharing.{at_end, at_next, gone_less}
use Rattle.pol_allocator.proofs.shared.remove_gone.Goals as goal

pub loop-prefix-preserved : goal.loop-prefix-preserved
loop-prefix-preserved c =
    let rows = c.args.identities.now in
    let all = c.args.prefixes.now in
    let i = c.loop-prefix.prefix-index in
    let prefix = c.prefix-item.result in
    gone_less prefix rows (drop (i + 1) all) c.loop-prefix.table c.remove_if_gone.new.table
    (at_next (λ ps. is_gone ps rows) rows all i c.loop-prefix.table prefix (omega arith) (sym c.prefix-item.is) c.loop-prefix.invariant) c.remove_if_gone.ensures

pub returns : goal.returns
returns c =
    let rows = c.args.identities.now in
    record { table = at_end (λ ps. is_gone ps rows) rows c.args.prefixes.now c.loop-prefix.prefix-index c.loop-prefix.table (λ own. refl) (omega arith) c.loop-prefix.invariant }
