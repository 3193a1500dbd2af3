use Rattle.std.proofs.Common.{sym, ◌∙◌, ap, Some, None, arith, le-leb, cond}
use Rattle.std.proofs.lemmas.Bool.{both_ways, lt-leb}
use Rattle.pol_addr.proofs.Texts.{not_plain, parsed_len, read_len_none}
use Rattle.pol_addr.proofs.len_text.parse_len.Goals as goal

pub returns-then-not-begins_plainly-clause-reads : goal.returns-then-not-begins_plainly-clause-reads
returns-then-not-begins_plainly-clause-reads c =
    sym (read_len_none c.args.most c.args.text.now (λ n small written. both_ways _ c.if-not-begins_plainly.true (c.begins_plainly.ensures.1 (not_plain c.args.text.now n (omega (arith, c.ranges.most.fits)) written))))

pub returns-in_err-len-clause-reads : goal.returns-in_err-len-clause-reads
returns-in_err-len-clause-reads c =
    let (no_plus, no_zero) = c.begins_plainly.ensures.0 c.if-not-begins_plainly.false in
    c.from_residual.ensures ∙ sym (parsed_len c.args.most c.args.text.now _ _ c.ranges.most.fits no_plus no_zero c.parse.ensures.value.0 c.in_err-len.ensures.value)

pub returns-then-len-most-clause-reads : goal.returns-then-len-most-clause-reads
returns-then-len-most-clause-reads c =
    let (no_plus, no_zero) = c.begins_plainly.ensures.0 c.if-not-begins_plainly.false in
    let read = parsed_len c.args.most c.args.text.now _ _ c.ranges.most.fits no_plus no_zero c.parse.ensures.value.0 c.in_ok-len.ensures.value in
    sym (read ∙ ap (λ b. cond b (Some c.in_ok-len.len) None) (le-leb c.in_ok-len.len c.args.most c.if-len-most.true))

pub returns-else-len-most-clause-reads : goal.returns-else-len-most-clause-reads
returns-else-len-most-clause-reads c =
    let (no_plus, no_zero) = c.begins_plainly.ensures.0 c.if-not-begins_plainly.false in
    let read = parsed_len c.args.most c.args.text.now _ _ c.ranges.most.fits no_plus no_zero c.parse.ensures.value.0 c.in_ok-len.ensures.value in
    sym (read ∙ ap (λ b. cond b (Some c.in_ok-len.len) None) (lt-leb c.in_ok-len.len c.args.most c.if-len-most.false))
