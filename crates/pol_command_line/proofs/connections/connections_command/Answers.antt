use Rattle.std.proofs.Common.{◌∙◌, ap, ap₂, codes}
use Rattle.std.proofs.lemmas.Result.{IfOk-weaker}
use Rattle.clap.specs.Words.{with_rule}
use Rattle.pol_command_line.specs.Grammar.{or_default}
use Rattle.pol_command_line.proofs.connections.connections_command.Goals as goal

pub returns : goal.returns
returns c =
    let mode = c.or_default-mode.ensures.rule ∙ ap (or_default (codes "default")) c.option.ensures.rule in
    let localhost = c.or_default-localhost.ensures.rule ∙ ap (or_default (codes "always")) c.option-2.ensures.rule in
    let one = c.in_ok-arg.ensures.shape (c.or_default-mode.ensures.local ∙ c.option.ensures.local) ∙ ap₂ with_rule c.no_options.ensures mode in
    let two = c.in_ok-arg-2.ensures.shape (c.or_default-localhost.ensures.local ∙ c.option-2.ensures.local) ∙ ap₂ with_rule one localhost in
    IfOk-weaker c.arg-3.result _ _
    (λ command added. added.shape c.flag-halves.ensures.local ∙ ap₂ with_rule two c.flag-halves.ensures.rule) c.arg-3.ensures
