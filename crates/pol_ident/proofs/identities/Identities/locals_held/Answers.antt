use Rattle.std.proofs.Common.{sym, ◌∙◌}
use Rattle.pol_ident.proofs.HeldPrefixes.{locals-all}
use Rattle.pol_ident.proofs.identities.Identities.locals_held.Goals as goal

pub returns-clause-held : goal.returns-clause-held
returns-clause-held c =
    rw (← c.self.view_is) (c.taken.ensures ∙ sym (locals-all c.self.inside.cluster c.self.inside.local c.self.invariant.cluster_few))
