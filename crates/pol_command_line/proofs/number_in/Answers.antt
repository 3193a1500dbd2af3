use Rattle.pol_command_line.proofs.Numbers.{number_within, no_number}
use Rattle.pol_command_line.proofs.number_in.Goals as goal

pub returns-then-number-greatest-clause-number : goal.returns-then-number-greatest-clause-number
returns-then-number-greatest-clause-number c =
    let read = c.in-Ok.ensures.value.0 in
    number_within c.args.least c.args.greatest c.args.text.now c.in-Ok.number read.0 read.1 c.if-least-number.true c.if-number-greatest.true

pub returns-in-Err-clause-number : goal.returns-in-Err-clause-number
returns-in-Err-clause-number c = no_number c.args.least c.args.greatest c.args.text.now c.in-Err.ensures.value.0
