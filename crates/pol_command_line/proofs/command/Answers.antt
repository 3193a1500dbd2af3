use Rattle.std.proofs.Common.{◌∙◌, ap, ap₂, codes}
use Rattle.std.proofs.lemmas.Result.{IfOk-weaker}
use Rattle.clap.specs.Words.{with_rule}
use Rattle.pol_command_line.specs.Grammar.{or_default}
use Rattle.pol_command_line.proofs.command.Goals as goal

pub returns : goal.returns
returns c =
    let workers = c.or_default-workers.ensures.rule ∙ ap (or_default (codes "2")) c.number.ensures.rule in
    let mode = c.or_default-mode.ensures.rule ∙ ap (or_default (codes "default")) c.option.ensures.rule in
    let localhost = c.or_default-localhost.ensures.rule ∙ ap (or_default (codes "always")) c.option-2.ensures.rule in
    let one = c.in_ok-arg.ensures.shape (c.or_default-workers.ensures.local ∙ c.number.ensures.local) ∙ ap₂ with_rule c.no_options.ensures workers in
    let two = c.in_ok-arg-2.ensures.shape (c.or_default-mode.ensures.local ∙ c.option.ensures.local) ∙ ap₂ with_rule one mode in
    let three = c.in_ok-arg-3.ensures.shape (c.or_default-localhost.ensures.local ∙ c.option-2.ensures.local) ∙ ap₂ with_rule two localhost in
    let four = c.in_ok-arg-4.ensures.shape c.number-map_max.ensures.local ∙ ap₂ with_rule three c.number-map_max.ensures.rule in
    let five = c.in_ok-arg-5.ensures.shape c.number-generate.ensures.local ∙ ap₂ with_rule four c.number-generate.ensures.rule in
    let six = c.in_ok-arg-6.ensures.shape c.option-map.ensures.local ∙ ap₂ with_rule five c.option-map.ensures.rule in
    let seven = c.in_ok-arg-7.ensures.shape c.flag-audit.ensures.local ∙ ap₂ with_rule six c.flag-audit.ensures.rule in
    IfOk-weaker c.arg-8.result _ _
    (λ command added. added.shape c.number-crash_at.ensures.local ∙ ap₂ with_rule seven c.number-crash_at.ensures.rule) c.arg-8.ensures
