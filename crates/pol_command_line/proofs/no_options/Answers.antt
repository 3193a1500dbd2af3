use Rattle.std.proofs.Common.{◌∙◌, ap, true}
use Rattle.clap.specs.Words.{App}
use Rattle.clap.specs.Simple.{app_of_fields, on_top}
use Rattle.pol_command_line.proofs.no_options.Goals as goal

pub returns : goal.returns
returns c = ap app_of_fields c.no_binary_name.ensures
    ∙ ap (λ (app : App). on_top (λ shape. record shape { no_binary_name = true }) app) c.new.ensures.app
