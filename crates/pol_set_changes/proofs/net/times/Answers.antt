use Rattle.std.proofs.Common.{arith}
use Rattle.pol_set_changes.proofs.Counted.{below_next}
use Rattle.pol_set_changes.proofs.net.times.Goals as goal

pub overflow_sub-result : goal.overflow_sub-result
overflow_sub-result c =
    let next = below_next c.args.id c.args.ids.now in
    rw (c.count_below.ensures, c.count_below-2.ensures, c.from.ensures, c.from-2.ensures) (omega arith)

pub returns : goal.returns
returns c =
    let next = below_next c.args.id c.args.ids.now in
    rw (c.count_below.ensures, c.count_below-2.ensures, c.from.ensures, c.from-2.ensures) (omega arith)
