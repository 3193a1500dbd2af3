use Rattle.std.proofs.Common.{rules}
use Rattle.pol_phases.specs.Cuts.{IsCutOf}
use Rattle.pol_run.specs.Run.{readings_of}
use Rattle.pol_parallel_lines.proofs.TwoHalves.{cut_of_halves}
use Rattle.pol_parallel_lines.proofs.cut.+cut_halves+fn-cut_halves-join+arg2+fn-cut_halves-join+arg3.Goals as goal

pub returns : goal.returns
returns g t c =
    let front = c.cut_at_line.result.0.now in
    let back = c.cut_at_line.result.1.now in
    let in_front : IsCutOf c.args.sessions (readings_of front) c.in_ok-first.field-0 = search rules in
    let behind : IsCutOf c.args.sessions (readings_of back) c.in_ok-second.field-0 = search rules in
    record { cut = cut_of_halves c.args.sessions c.args.script.now front back c.in_ok-first.field-0 c.in_ok-second.field-0 c.followed_by.result c.cut_at_line.ensures in_front behind c.followed_by.ensures }
