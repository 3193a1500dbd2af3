use Rattle.std.proofs.Common.{◌∙◌}
use Rattle.pol_ident.proofs.Selected.{held_is}
use Rattle.pol_ident.proofs.identities.Identities.is_selected.Goals as goal

pub returns-in-Some-clause-selected : goal.returns-in-Some-clause-selected
returns-in-Some-clause-selected c =
    c.selects.ensures.answer ∙ held_is c.args.self.now c.args.peer.now c.args.number _ _ c.in-Some.ensures.labels c.prefix_of-prefix.ensures.prefix
