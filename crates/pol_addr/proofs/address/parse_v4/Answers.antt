use Rattle.std.proofs.Common.{sym, ◌∙◌, ap, Some}
use Rattle.pol_addr.proofs.Texts.{addr_of_list, parsed_v4}
use Rattle.pol_addr.proofs.address.parse_v4.Goals as goal

pub returns-in_err-ok : goal.returns-in_err-ok
returns-in_err-ok c = c.from_residual.ensures ∙ sym (parsed_v4 c.args.text.now _ _ c.parse.ensures.value c.in_err-ok.ensures.value)

pub returns : goal.returns
returns c =
    ap Some (c.from_octets.ensures ∙ ap addr_of_list c.octets.ensures) ∙ sym (parsed_v4 c.args.text.now _ _ c.parse.ensures.value c.in_ok-ok.ensures.value)
