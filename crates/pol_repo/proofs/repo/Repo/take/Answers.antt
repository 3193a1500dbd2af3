use Rattle.std.proofs.Common.{◌<◌, ℕ, List, IfSome, length, ap, subst, sym, vec_len, ◌∙◌}
use Rattle.std.specs.Vec.{vec_capacity}
use Rattle.pol_model_laws.specs.WithoutFaults.{WithoutFaults}
use Rattle.pol_taken.proofs.Agreed.{taken_map}
use Rattle.pol_set_moves.specs.Moves.{moves_by}
use Rattle.pol_repo.specs.Repository.{Repository, state_in}
use Rattle.pol_repo.proofs.Standing.{stands}
use Rattle.pol_repo.proofs.Taking.{refs_of, rows_live, with_moves}
use Rattle.pol_repo.proofs.Telling.{moves_are, since_within}
use Rattle.pol_repo.proofs.repo.Repo.take.Goals as goal

pub take-requires : goal.take-requires
take-requires c = record {
  refs = refs_of c.self.inside.store c.args.self.now
      (stands c.self.inside.options c.self.inside.journal.items (vec_len c.self.inside.journal) (vec_capacity c.self.inside.journal) c.self.inside.store c.self.inside.prepared c.args.self.now
      c.self.view_is c.self.invariant.0 c.requires.idle);
}

pub moves_in-requires-clause-within : goal.moves_in-requires-clause-within
moves_in-requires-clause-within c =
    subst (λ (nexts : List ℕ). IfSome c.args.since (λ revision. revision < length nexts)) (sym c.as_slice.ensures.value)
    (since_within c.self.inside.options c.self.inside.journal.items (vec_len c.self.inside.journal) (vec_capacity c.self.inside.journal) c.self.inside.store c.self.inside.prepared c.args.self.now
    c.self.view_is c.self.invariant.0 c.self.inside.nexts.items (vec_len c.self.inside.nexts) (vec_capacity c.self.inside.nexts) c.self.invariant.1 c.requires.idle
    c.args.since c.requires.since)

pub moves_in-requires-clause-live : goal.moves_in-requires-clause-live
moves_in-requires-clause-live c = rows_live c.self.inside.store.cache.live c.in_ok-taken.taken.sets c.in_ok-taken.ensures.selectors

pub returns-clause-taken : goal.returns-clause-taken
returns-clause-taken c =
    with_moves c.args.self.now.options (state_in c.args.self.now) c.args.slot c.in_ok-taken.taken c.in_ok-taken-2.field-0
    (c.in_ok-taken.ensures.taken c.args.self.now.options (state_in c.args.self.now) (ap (λ (r : Repository). r.options.localhost) (sym c.self.view_is))
    (stands c.self.inside.options c.self.inside.journal.items (vec_len c.self.inside.journal) (vec_capacity c.self.inside.journal) c.self.inside.store c.self.inside.prepared c.args.self.now
    c.self.view_is c.self.invariant.0 c.requires.idle))

pub returns-clause-map : goal.returns-clause-map
returns-clause-map c =
    taken_map c.args.self.now.options c.args.self.now.journal c.args.slot _
    (subst (λ (r : Repository). WithoutFaults r.options r.journal) c.self.view_is c.self.invariant.0.without_faults) (returns-clause-taken c)

pub returns-clause-moves : goal.returns-clause-moves
returns-clause-moves c =
    moves_are c.self.inside.options c.self.inside.journal.items (vec_len c.self.inside.journal) (vec_capacity c.self.inside.journal) c.self.inside.store c.self.inside.prepared c.args.self.now
    c.self.view_is c.self.invariant.0 c.self.inside.nexts.items (vec_len c.self.inside.nexts) (vec_capacity c.self.inside.nexts) c.self.invariant.1 c.requires.idle
    c.args.since c.requires.since c.in_ok-taken.taken.sets c.in_ok-taken.ensures.selectors c.in_ok-taken-2.field-0
    (c.in_ok-taken-2.ensures.moves ∙ ap (λ (nexts : List ℕ). moves_by c.self.inside.store.cache.log nexts c.args.since c.in_ok-taken.taken.sets) c.as_slice.ensures.value)
