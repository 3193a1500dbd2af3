use Rattle.std.proofs.Common.{◌≡◌, ◌∙◌, ap, Some, Option}
use Rattle.clap.specs.Words.{Rule, rule_of}
use Rattle.clap.specs.declared.builder.value_parser.ValueParser.{ValueParser}
use Rattle.clap.specs.declared.builder.value_parser.ValueParser.TheVariants as parser
use Rattle.pol_command_line.proofs.number.Goals as goal

pub returns-clause-rule : goal.returns-clause-rule
returns-clause-rule c =
    let given = c.value_parser.ensures.given in
    let range : c.value_parser.result.value_parser ≡ Some (parser.Unsigned c.args.least c.args.greatest) =
    given.1 ∙ ap (λ (p : ValueParser). Some p) (given.2 ∙ c.unsigned.ensures) in
    ap rule_of c.value_parser.ensures.others
    ∙ ap (λ (p : Option ValueParser). record (rule_of c.option.result) { parser = p }) range
    ∙ ap (λ (rule : Rule). record rule { parser = Some (parser.Unsigned c.args.least c.args.greatest) }) c.option.ensures.rule
