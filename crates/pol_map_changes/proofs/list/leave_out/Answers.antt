use Rattle.std.proofs.Common.{rules}
use Rattle.std.proofs.lemmas.Fn.{filter_same}
use Rattle.pol_map_changes.specs.LeftOut.{matters}
use Rattle.pol_map_changes.proofs.list.leave_out.Goals as goal

pub returns : goal.returns
returns c = filter_same _ (matters c.args.base.now) _ (λ x b f h. search rules) _ _ c.retain.ensures.filtered
