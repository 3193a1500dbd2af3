use Rattle.std.proofs.Common.{◌≡◌, ◌+◌, slice_index, arith}
use Rattle.std.proofs.lemmas.List.{get_or_read}
use Rattle.pol_history.proofs.Own.{commits_by-few}
use Rattle.pol_board.proofs.Counting.{counted-commit}
use Rattle.pol_board.proofs.writer.count_one.Goals as goal

pub overflow_add-before : goal.overflow_add-before
overflow_add-before g c =
    let few = commits_by-few c.args.pass c.args.seen.now in
    let here = c.requires.counted.each c.args.pass c.requires.listed in
    let read : c.index-before.result.now ≡ slice_index c.args.counts.now.items c.args.pass = get_or_read c.args.counts.now.items c.args.pass c.index-before.result.now c.requires.listed c.index-before.ensures 0 in
    omega (arith, few, here, read, c.requires.room)

pub returns : goal.returns
returns g c =
    let read : c.index-before.result.now ≡ slice_index c.args.counts.now.items c.args.pass = get_or_read c.args.counts.now.items c.args.pass c.index-before.result.now c.requires.listed c.index-before.ensures 0 in
    counted-commit c.args.pass c.args.number c.args.request.now c.args.seen.now c.args.counts.now.items (c.index-before.result.now + 1) c.requires.listed c.requires.counted (omega (arith, read))
