use Rattle.std.proofs.Common.{length, ◌/◌}
use Rattle.pol_parallel_lines.proofs.BehindNewline.{cut_behind}
use Rattle.pol_parallel_lines.proofs.halves.cut_at_line.Goals as goal

pub returns-in-Some : goal.returns-in-Some
returns-in-Some c =
    let bytes = c.args.bytes.now in
    let first = c.in-Some.ensures in
    rw (c.split_at.ensures.front, c.split_at.ensures.back) (cut_behind bytes (length bytes / 2) c.in-Some.end first.0.high first.1)
