use Rattle.std.proofs.Common.{ap}
use Rattle.clap.specs.Words.{rule_of}
use Rattle.pol_command_line.proofs.or_default.Goals as goal

pub returns-clause-rule : goal.returns-clause-rule
returns-clause-rule c = ap rule_of c.default_value.ensures
