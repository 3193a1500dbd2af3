use Rattle.std.proofs.Common.{sym, ◌∙◌, ap, Some, arith}
use Rattle.pol_addr.specs.Address.{addr_of_groups}
use Rattle.pol_addr.proofs.Bytes.{contains-has}
use Rattle.pol_addr.proofs.HexTexts.{parsed_v6, read_v6-dot}
use Rattle.pol_addr.proofs.address.parse_v6.Goals as goal

pub returns-then-contains : goal.returns-then-contains
returns-then-contains c =
    let is = contains-has 46 c.args.text.now _ c.contains.ensures.cases (omega arith) in
    sym (read_v6-dot c.args.text.now (sym is ∙ c.if-contains.true))

pub returns-in_err-ok : goal.returns-in_err-ok
returns-in_err-ok c =
    let is = contains-has 46 c.args.text.now _ c.contains.ensures.cases (omega arith) in
    c.from_residual.ensures ∙ sym (parsed_v6 c.args.text.now _ _ (sym is ∙ c.if-contains.false) c.parse.ensures.value c.in_err-ok.ensures.value)

pub returns : goal.returns
returns c =
    let is = contains-has 46 c.args.text.now _ c.contains.ensures.cases (omega arith) in
    ap Some (c.from_groups.ensures ∙ ap addr_of_groups c.segments-groups.ensures) ∙ sym (parsed_v6 c.args.text.now _ _ (sym is ∙ c.if-contains.false) c.parse.ensures.value c.in_ok-ok.ensures.value)
