-- What is taken is kept for the slot.
use Rattle.std.proofs.Common.{◌≡◌, ℕ, Option, Result, Ok, Err, refl, sym, subst}
use Rattle.std.specs.Arc.{arc_value}
use Rattle.pol_set_moves.specs.Moves.{TellsMovesSince}
use Rattle.pol_distill.specs.Distilled.{distilled}
use Rattle.pol_history.specs.declared.machine.Reply.{Reply}
use Rattle.pol_history.specs.declared.machine.Reply.TheVariants as reply
use Rattle.pol_history.specs.Machine.{endpoint_in}
use Rattle.pol_model.specs.PolicyMap.{policy_map}
use Rattle.pol_repo.specs.Repository.{Repository, state_in}
use Rattle.pol_taken.specs.OfState.{IsTakenOf}
use Rattle.pol_taken.specs.declared.taken.Taken.{Taken}
use Rattle.pol_machine.specs.Parts.{Keeps, Takes, TakesOf}
use Rattle.pol_machine.specs.Rows.{RowsOf, since_of}

module _ (repo : Repository) (rows : RowsOf) (slot : ℕ) (old new : TakesOf) (taken : Taken) (is : IsTakenOf repo.options (state_in repo) slot taken)
    (made : distilled (arc_value taken.filters) taken.sets ≡ policy_map repo.options (state_in repo) taken.endpoint) (since : Option ℕ)
    (from : since ≡ since_of rows (endpoint_in slot (state_in repo).endpoints)) (moves : TellsMovesSince repo.options repo.journal since taken.sets taken.moves) where
  told : TellsMovesSince repo.options repo.journal (since_of rows (endpoint_in slot (state_in repo).endpoints)) taken.sets taken.moves
  told = subst (λ (s : Option ℕ). TellsMovesSince repo.options repo.journal s taken.sets taken.moves) from moves

  by_answer : (E : Type 0) (now : Reply) → now ≡ reply.Took taken.revision → Keeps {E = E} slot taken old new (Ok now) → Takes {E = E} repo rows slot old new (Ok now)
  by_answer E now same keeps =
      subst (λ (r : Reply). Takes {E = E} repo rows slot old new (Ok r)) (sym same)
      (record { taken = taken; is = is; made = made; moves = told; same = refl; takes = keeps.1 })

  pub kept_so : {E : Type 0} (result : Result Reply E) → Keeps slot taken old new result → Takes repo rows slot old new result
  kept_so {E} (Ok now) keeps = by_answer E now keeps.0 keeps
  kept_so (Err error) keeps = keeps
