use Rattle.std.proofs.Common.{◌∙◌, sym}
use Rattle.pol_sanitize.proofs.Numbers.{port_of-parse}
use Rattle.pol_sanitize.proofs.ports.port_of.Goals as goal

pub returns : goal.returns
returns c =
    let number = sym c.is_number_text.ensures ∙ c.if-not-is_number_text.false in
    c.ok.ensures.value ∙ port_of-parse c.args.text.now _ number c.parse.ensures.value.0
