use Rattle.std.proofs.Common.{Some, sym, ap, ◌∙◌}
use Rattle.pol_addr.specs.Address.{family_of}
use Rattle.pol_model.specs.Worlds.{world_in}
use Rattle.pol_addr.proofs.World.{world_from_len}
use Rattle.pol_ident.proofs.HeldPrefixes.{none-found, place-found, world-found}
use Rattle.pol_ident.proofs.identities.Identities.number_of_prefix.Goals as goal

pub returns-in-Some-clause-number : goal.returns-in-Some-clause-number
returns-in-Some-clause-number c = rw (← c.self.view_is) (sym (place-found _ _ _ c.self.invariant c.args.prefix.now c.in-Some.place c.in-Some.ensures.found))

pub returns-in-None-clause-number : goal.returns-in-None-clause-number
returns-in-None-clause-number c =
    let own = c.world_identity.ensures.identity ∙ ap (λ f. (world_in f).identity) (c.family.ensures.value ∙ ap family_of c.network.ensures.value) in
    rw (← c.self.view_is)
    (ap (λ n. Some n) own ∙ sym (world-found _ _ _ c.self.invariant c.args.prefix.now (family_of c.args.prefix.now.addr) (world_from_len c.args.prefix.now c.len-len.ensures.valid (sym c.len-len.ensures.value ∙ c.if-len-eq0.true))))

pub returns-in-None-2-clause-number : goal.returns-in-None-2-clause-number
returns-in-None-2-clause-number c =
    rw (← c.self.view_is) (sym (none-found _ _ _ c.self.invariant c.args.prefix.now c.in-None-2.ensures.none (λ none. c.if-len-eq0.false (c.len-len.ensures.value ∙ none))))
