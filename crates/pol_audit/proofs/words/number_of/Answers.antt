use Rattle.std.proofs.lemmas.Bool.{both_ways}
use Rattle.pol_audit.proofs.Spelled.{not_plain, number_fits, number_none, number_some}
use Rattle.pol_audit.proofs.words.number_of.Goals as goal

pub returns-then-not-begins_plainly-clause-none : goal.returns-then-not-begins_plainly-clause-none
returns-then-not-begins_plainly-clause-none c = λ number small written.
    both_ways _ c.if-not-begins_plainly.true (c.begins_plainly.ensures.1 (not_plain c.args.text.now number small written))

pub returns-clause-some : goal.returns-clause-some
returns-clause-some c =
    let (no_plus, no_zero) = c.begins_plainly.ensures.0 c.if-not-begins_plainly.false in
    number_some c.args.text.now c.parse.result c.ok.result c.ok.ensures.value no_plus no_zero c.parse.ensures.value.0

pub returns-clause-fits : goal.returns-clause-fits
returns-clause-fits c =
    let (no_plus, no_zero) = c.begins_plainly.ensures.0 c.if-not-begins_plainly.false in
    number_fits c.args.text.now c.parse.result c.ok.result c.ok.ensures.value no_plus no_zero c.parse.ensures.value.0

pub returns-clause-none : goal.returns-clause-none
returns-clause-none c =
    let (no_plus, no_zero) = c.begins_plainly.ensures.0 c.if-not-begins_plainly.false in
    number_none c.args.text.now c.parse.result c.ok.result c.ok.ensures.value no_plus no_zero c.parse.ensures.value.0
