use Rattle.std.proofs.Common.{refl, sym, ◌∙◌}
use Rattle.std.proofs.lemmas.Bool.{both_ways}
use Rattle.pol_ident.proofs.HeldLabels.{hold-found, hold-full, hold-init, hold-new, not_reserved}
use Rattle.pol_ident.proofs.Refusals.{memory_only}
use Rattle.pol_ident.proofs.identities.Identities.acquire.Goals as goal

-- an equal set has a number
pub returns-in_err-hold-in-Some-clause-exhausted : goal.returns-in_err-hold-in-Some-clause-exhausted
returns-in_err-hold-in-Some-clause-exhausted c =
    let held = hold-found _ _ _ c.self.invariant c.args.labels.now c.in-Some.place c.in-Some.ensures.found c.as_slice-ordered.ensures.ordered c.requires.allowed in
    rw (← c.self.view_is) (λ e. absurd (memory_only c.from_residual.result c.from_residual.ensures.1 e), λ full. absurd (both_ways _ held.room full))

pub invariant_of-self-in-Some : goal.invariant_of-self-in-Some
invariant_of-self-in-Some c =
    rw c.in_ok-hold-in-Some.ensures.ok
    (hold-found _ _ _ c.self.invariant c.args.labels.now c.in-Some.place c.in-Some.ensures.found c.as_slice-ordered.ensures.ordered c.requires.allowed).kept

pub returns-in_ok-hold-in-Some-clause-number : goal.returns-in_ok-hold-in-Some-clause-number
returns-in_ok-hold-in-Some-clause-number c =
    rw (← c.self.view_is)
    (hold-found _ _ _ c.self.invariant c.args.labels.now c.in-Some.place c.in-Some.ensures.found c.as_slice-ordered.ensures.ordered c.requires.allowed).number

pub returns-in_ok-hold-in-Some-clause-ok : goal.returns-in_ok-hold-in-Some-clause-ok
returns-in_ok-hold-in-Some-clause-ok c =
    rw (c.in_ok-hold-in-Some.ensures.ok, ← c.self.view_is)
    (hold-found _ _ _ c.self.invariant c.args.labels.now c.in-Some.place c.in-Some.ensures.found c.as_slice-ordered.ensures.ordered c.requires.allowed).is

pub returns-in_ok-hold-in-Some-clause-exhausted : goal.returns-in_ok-hold-in-Some-clause-exhausted
returns-in_ok-hold-in-Some-clause-exhausted c =
    let held = hold-found _ _ _ c.self.invariant c.args.labels.now c.in-Some.place c.in-Some.ensures.found c.as_slice-ordered.ensures.ordered c.requires.allowed in
    rw (← c.self.view_is) (λ e. absurd cc, λ full. absurd (both_ways _ held.room full))

pub returns-in_ok-hold-in-Some-clause-sound : goal.returns-in_ok-hold-in-Some-clause-sound
returns-in_ok-hold-in-Some-clause-sound c = (invariant_of-self-in-Some c).keeps

-- the set of what has no labels yet
pub returns-in-None-clause-number : goal.returns-in-None-clause-number
returns-in-None-clause-number c = rw (← c.self.view_is) (hold-init _ _ _ c.self.invariant c.args.labels.now (sym c.is_init.ensures ∙ c.if-is_init.true)).number

pub returns-in-None-clause-ok : goal.returns-in-None-clause-ok
returns-in-None-clause-ok c = rw (← c.self.view_is) (hold-init _ _ _ c.self.invariant c.args.labels.now (sym c.is_init.ensures ∙ c.if-is_init.true)).is

pub returns-in-None-clause-exhausted : goal.returns-in-None-clause-exhausted
returns-in-None-clause-exhausted c =
    let held = hold-init _ _ _ c.self.invariant c.args.labels.now (sym c.is_init.ensures ∙ c.if-is_init.true) in
    rw (← c.self.view_is) (λ e. absurd cc, λ full. absurd (both_ways _ held.room full))

-- no number is free
pub returns-then-place-ge-CLUSTER_IDENTITIES-clause-exhausted : goal.returns-then-place-ge-CLUSTER_IDENTITIES-clause-exhausted
returns-then-place-ge-CLUSTER_IDENTITIES-clause-exhausted c =
    let full = hold-full _ _ _ c.self.invariant c.args.labels.now c.in-None-2.ensures.none (not_reserved c.args.labels.now (sym c.is_init.ensures ∙ c.if-is_init.false) c.requires.allowed) _ c.free_place-place.ensures c.if-place-ge-CLUSTER_IDENTITIES.true in
    rw (← c.self.view_is) (λ e. full, λ e. refl)

-- a new set takes one
pub returns-in_err-add-in-None-2-clause-exhausted : goal.returns-in_err-add-in-None-2-clause-exhausted
returns-in_err-add-in-None-2-clause-exhausted c =
    let held = (hold-new _ _ _ c.self.invariant c.args.labels.now c.in-None-2.ensures.none (not_reserved c.args.labels.now (sym c.is_init.ensures ∙ c.if-is_init.false) c.requires.allowed) c.as_slice-ordered.ensures.ordered c.requires.allowed _ c.free_place-place.ensures c.if-place-ge-CLUSTER_IDENTITIES.false) in
    rw (← c.self.view_is) (λ e. absurd (memory_only c.from_residual-in_err-add-in-None-2.result c.from_residual-in_err-add-in-None-2.ensures.1 e), λ full. absurd (both_ways _ held.room full))

pub invariant_of-self-in-None-2 : goal.invariant_of-self-in-None-2
invariant_of-self-in-None-2 c = rw c.in_ok-add-in-None-2.ensures.ok (hold-new _ _ _ c.self.invariant c.args.labels.now c.in-None-2.ensures.none (not_reserved c.args.labels.now (sym c.is_init.ensures ∙ c.if-is_init.false) c.requires.allowed) c.as_slice-ordered.ensures.ordered c.requires.allowed _ c.free_place-place.ensures c.if-place-ge-CLUSTER_IDENTITIES.false).kept

pub returns-in_ok-add-in-None-2-clause-number : goal.returns-in_ok-add-in-None-2-clause-number
returns-in_ok-add-in-None-2-clause-number c = rw (← c.self.view_is) (hold-new _ _ _ c.self.invariant c.args.labels.now c.in-None-2.ensures.none (not_reserved c.args.labels.now (sym c.is_init.ensures ∙ c.if-is_init.false) c.requires.allowed) c.as_slice-ordered.ensures.ordered c.requires.allowed _ c.free_place-place.ensures c.if-place-ge-CLUSTER_IDENTITIES.false).number

pub returns-in_ok-add-in-None-2-clause-ok : goal.returns-in_ok-add-in-None-2-clause-ok
returns-in_ok-add-in-None-2-clause-ok c = rw (c.in_ok-add-in-None-2.ensures.ok, ← c.self.view_is) (hold-new _ _ _ c.self.invariant c.args.labels.now c.in-None-2.ensures.none (not_reserved c.args.labels.now (sym c.is_init.ensures ∙ c.if-is_init.false) c.requires.allowed) c.as_slice-ordered.ensures.ordered c.requires.allowed _ c.free_place-place.ensures c.if-place-ge-CLUSTER_IDENTITIES.false).is

pub returns-in_ok-add-in-None-2-clause-exhausted : goal.returns-in_ok-add-in-None-2-clause-exhausted
returns-in_ok-add-in-None-2-clause-exhausted c =
    let held = (hold-new _ _ _ c.self.invariant c.args.labels.now c.in-None-2.ensures.none (not_reserved c.args.labels.now (sym c.is_init.ensures ∙ c.if-is_init.false) c.requires.allowed) c.as_slice-ordered.ensures.ordered c.requires.allowed _ c.free_place-place.ensures c.if-place-ge-CLUSTER_IDENTITIES.false) in
    rw (← c.self.view_is) (λ e. absurd cc, λ full. absurd (both_ways _ held.room full))

pub returns-in_ok-add-in-None-2-clause-sound : goal.returns-in_ok-add-in-None-2-clause-sound
returns-in_ok-add-in-None-2-clause-sound c = (invariant_of-self-in-None-2 c).keeps
