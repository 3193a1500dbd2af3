use Rattle.std.proofs.Common.{sym, ◌∙◌}
use Rattle.pol_ident.proofs.HeldLabels.{init-found, none-found, not_reserved, place-found}
use Rattle.pol_ident.proofs.identities.Identities.number_of.Goals as goal

pub returns-in-Some-clause-number : goal.returns-in-Some-clause-number
returns-in-Some-clause-number c =
    rw (← c.self.view_is) (sym (place-found _ _ _ c.self.invariant c.args.labels.now c.in-Some.place c.in-Some.ensures.found).1)

pub returns-in-None-clause-number : goal.returns-in-None-clause-number
returns-in-None-clause-number c =
    rw (← c.self.view_is) (sym (init-found _ _ _ c.self.invariant c.args.labels.now (sym c.is_init.ensures ∙ c.if-is_init.true)))

pub returns-in-None-2-clause-number : goal.returns-in-None-2-clause-number
returns-in-None-2-clause-number c =
    rw (← c.self.view_is)
    (sym (none-found _ _ _ c.self.invariant c.args.labels.now c.in-None-2.ensures.none (not_reserved c.args.labels.now (sym c.is_init.ensures ∙ c.if-is_init.false) c.requires.allowed)))
