use Rattle.std.proofs.Common.{refl, sym, ap, ◌∙◌}
use Rattle.pol_ident.proofs.HeldPrefixes.{hold-found, hold-full, hold-new, hold-world}
use Rattle.pol_addr.specs.Address.{family_of}
use Rattle.pol_model.specs.Worlds.{world_in}
use Rattle.pol_addr.proofs.World.{world_from_len}
use Rattle.pol_ident.proofs.Refusals.{memory_only}
use Rattle.pol_ident.proofs.identities.Identities.acquire_prefix.Goals as goal

-- the prefix has a number
pub returns-in_err-hold-in-Some-clause-exhausted : goal.returns-in_err-hold-in-Some-clause-exhausted
returns-in_err-hold-in-Some-clause-exhausted c =
    let held = hold-found _ _ _ c.self.invariant c.args.prefix c.in-Some.place c.in-Some.ensures.found c.len-len.ensures.valid in
    rw (← c.self.view_is) (λ e. absurd (memory_only c.from_residual.result c.from_residual.ensures.1 e), λ full. absurd (held.room full))

pub invariant_of-self-in-Some : goal.invariant_of-self-in-Some
invariant_of-self-in-Some c =
    rw c.in_ok-hold-in-Some.ensures.ok
    (hold-found _ _ _ c.self.invariant c.args.prefix c.in-Some.place c.in-Some.ensures.found c.len-len.ensures.valid).kept

pub returns-in_ok-hold-in-Some-clause-number : goal.returns-in_ok-hold-in-Some-clause-number
returns-in_ok-hold-in-Some-clause-number c =
    rw (← c.self.view_is)
    (hold-found _ _ _ c.self.invariant c.args.prefix c.in-Some.place c.in-Some.ensures.found c.len-len.ensures.valid).number

pub returns-in_ok-hold-in-Some-clause-ok : goal.returns-in_ok-hold-in-Some-clause-ok
returns-in_ok-hold-in-Some-clause-ok c =
    rw (c.in_ok-hold-in-Some.ensures.ok, ← c.self.view_is)
    (hold-found _ _ _ c.self.invariant c.args.prefix c.in-Some.place c.in-Some.ensures.found c.len-len.ensures.valid).is

pub returns-in_ok-hold-in-Some-clause-exhausted : goal.returns-in_ok-hold-in-Some-clause-exhausted
returns-in_ok-hold-in-Some-clause-exhausted c =
    let held = hold-found _ _ _ c.self.invariant c.args.prefix c.in-Some.place c.in-Some.ensures.found c.len-len.ensures.valid in
    rw (← c.self.view_is) (λ e. absurd cc, λ full. absurd (held.room full))

pub returns-in_ok-hold-in-Some-clause-sound : goal.returns-in_ok-hold-in-Some-clause-sound
returns-in_ok-hold-in-Some-clause-sound c = (invariant_of-self-in-Some c).keeps

-- the world's
pub returns-in-None-clause-number : goal.returns-in-None-clause-number
returns-in-None-clause-number c =
    let own = c.world_identity.ensures.identity ∙ ap (λ f. (world_in f).identity) (c.family.ensures.value ∙ ap family_of c.network.ensures.value) in
    rw (← c.self.view_is) (own ∙ (hold-world _ _ _ c.self.invariant c.args.prefix (family_of c.args.prefix.addr) (world_from_len c.args.prefix c.len-len.ensures.valid (sym c.len-len.ensures.value ∙ c.if-len-eq0.true))).number)

pub returns-in-None-clause-ok : goal.returns-in-None-clause-ok
returns-in-None-clause-ok c = rw (← c.self.view_is) (hold-world _ _ _ c.self.invariant c.args.prefix (family_of c.args.prefix.addr) (world_from_len c.args.prefix c.len-len.ensures.valid (sym c.len-len.ensures.value ∙ c.if-len-eq0.true))).is

pub returns-in-None-clause-exhausted : goal.returns-in-None-clause-exhausted
returns-in-None-clause-exhausted c =
    let held = hold-world _ _ _ c.self.invariant c.args.prefix (family_of c.args.prefix.addr) (world_from_len c.args.prefix c.len-len.ensures.valid (sym c.len-len.ensures.value ∙ c.if-len-eq0.true)) in
    rw (← c.self.view_is) (λ e. absurd cc, λ full. absurd (held.room full))

-- no number is free
pub returns-then-place-ge-LOCAL_IDENTITIES-clause-exhausted : goal.returns-then-place-ge-LOCAL_IDENTITIES-clause-exhausted
returns-then-place-ge-LOCAL_IDENTITIES-clause-exhausted c =
    let full = hold-full _ _ _ c.self.invariant c.args.prefix c.in-None-2.ensures.none (λ none. c.if-len-eq0.false (c.len-len.ensures.value ∙ none)) _ c.free_place-place.ensures c.if-place-ge-LOCAL_IDENTITIES.true in
    rw (← c.self.view_is) (λ e. full, λ e. refl)

-- a new prefix takes one
pub returns-in_err-add-in-None-2-clause-exhausted : goal.returns-in_err-add-in-None-2-clause-exhausted
returns-in_err-add-in-None-2-clause-exhausted c =
    let held = (hold-new _ _ _ c.self.invariant c.args.prefix c.in-None-2.ensures.none (λ none. c.if-len-eq0.false (c.len-len.ensures.value ∙ none)) c.len-len.ensures.valid _ c.free_place-place.ensures c.if-place-ge-LOCAL_IDENTITIES.false) in
    rw (← c.self.view_is) (λ e. absurd (memory_only c.from_residual-in_err-add-in-None-2.result c.from_residual-in_err-add-in-None-2.ensures.1 e), λ full. absurd (held.room full))

pub invariant_of-self-in-None-2 : goal.invariant_of-self-in-None-2
invariant_of-self-in-None-2 c = rw (c.in_ok-add-in-None-2.ensures.ok) (hold-new _ _ _ c.self.invariant c.args.prefix c.in-None-2.ensures.none (λ none. c.if-len-eq0.false (c.len-len.ensures.value ∙ none)) c.len-len.ensures.valid _ c.free_place-place.ensures c.if-place-ge-LOCAL_IDENTITIES.false).kept

pub returns-in_ok-add-in-None-2-clause-number : goal.returns-in_ok-add-in-None-2-clause-number
returns-in_ok-add-in-None-2-clause-number c = rw (← c.self.view_is) (hold-new _ _ _ c.self.invariant c.args.prefix c.in-None-2.ensures.none (λ none. c.if-len-eq0.false (c.len-len.ensures.value ∙ none)) c.len-len.ensures.valid _ c.free_place-place.ensures c.if-place-ge-LOCAL_IDENTITIES.false).number

pub returns-in_ok-add-in-None-2-clause-ok : goal.returns-in_ok-add-in-None-2-clause-ok
returns-in_ok-add-in-None-2-clause-ok c = rw (c.in_ok-add-in-None-2.ensures.ok, ← c.self.view_is) (hold-new _ _ _ c.self.invariant c.args.prefix c.in-None-2.ensures.none (λ none. c.if-len-eq0.false (c.len-len.ensures.value ∙ none)) c.len-len.ensures.valid _ c.free_place-place.ensures c.if-place-ge-LOCAL_IDENTITIES.false).is

pub returns-in_ok-add-in-None-2-clause-exhausted : goal.returns-in_ok-add-in-None-2-clause-exhausted
returns-in_ok-add-in-None-2-clause-exhausted c =
    let held = (hold-new _ _ _ c.self.invariant c.args.prefix c.in-None-2.ensures.none (λ none. c.if-len-eq0.false (c.len-len.ensures.value ∙ none)) c.len-len.ensures.valid _ c.free_place-place.ensures c.if-place-ge-LOCAL_IDENTITIES.false) in
    rw (← c.self.view_is) (λ e. absurd cc, λ full. absurd (held.room full))

pub returns-in_ok-add-in-None-2-clause-sound : goal.returns-in_ok-add-in-None-2-clause-sound
returns-in_ok-add-in-None-2-clause-sound c = (invariant_of-self-in-None-2 c).keeps
