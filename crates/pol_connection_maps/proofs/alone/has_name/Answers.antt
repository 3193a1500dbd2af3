use Rattle.std.proofs.Common.{is_some, ap, ◌∙◌}
use Rattle.pol_connection_maps.proofs.Firsts.{has_some, some_copied}
use Rattle.pol_connection_maps.proofs.alone.has_name.Goals as goal

pub returns : goal.returns
returns c = λ one are. c.is_some.ensures ∙ some_copied c.first_named.result ∙ ap is_some (c.first_named.ensures one are) ∙ has_some c.args.name.now one
