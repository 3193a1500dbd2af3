-- A take for a slot answers as the repository's take does.
use Rattle.std.proofs.Common.{◌≡◌, ◌↔◌, ℕ, List, Option, None, Result, Ok, Err, IfOk, IsErrOf, refl, subst}
use Rattle.std.specs.Arc.{arc_value}
use Rattle.pol_set_moves.specs.Moves.{TellsMovesSince}
use Rattle.pol_distill.specs.Distilled.{distilled}
use Rattle.pol_model.specs.PolicyMap.{policy_map}
use Rattle.pol_model.specs.declared.options.Options.{Options}
use Rattle.pol_history.specs.declared.event.HistoryEvent.{HistoryEvent}
use Rattle.pol_history.specs.Commits.{commits_in, revision_of, state_now}
use Rattle.pol_history.specs.Legal.{IsLegal}
use Rattle.pol_history.specs.Machine.{endpoint_in}
use Rattle.pol_taken.specs.declared.error.TakeError.{TakeError}
use Rattle.pol_taken.specs.declared.error.TakeError.TheVariants as no_take
use Rattle.pol_taken.specs.declared.taken.Taken.{Taken}
use Rattle.pol_taken.specs.OfState.{IsTakenOf}
use Rattle.pol_node.specs.declared.kept.KeptEndpoint.{KeptEndpoint}
use Rattle.pol_node.specs.Kept.{StaysAt, since_of}
use Rattle.pol_node.specs.TakenFor.{TakesFor, told_of}

module _ (options : Options) (history : List HistoryEvent) (slot : ℕ) (old new : Option KeptEndpoint) (stays : StaysAt options history slot old new)
    (legal : IsLegal options history) (since : Option ℕ) (since_is : since ≡ since_of new) where
  pub takes_told : (result : Result Taken TakeError) → IfOk result (λ taken. taken.revision ≡ revision_of history)
      → IfOk result (IsTakenOf options (state_now options history) slot)
      → IfOk result (λ taken. distilled (arc_value taken.filters) taken.sets ≡ policy_map options (state_now options history) taken.endpoint)
      → IfOk result (λ taken. TellsMovesSince options (commits_in history) since taken.sets taken.moves)
      → (IsErrOf result no_take.Gone ↔ (endpoint_in slot (state_now options history).endpoints ≡ None))
      → TakesFor options history slot old new (told_of result)
  takes_told (Ok taken) revision of map moves gone = record {
    is = record { legal = legal; revision = revision; is = of; made = map };
    moves = subst (λ (o : Option ℕ). TellsMovesSince options (commits_in history) o taken.sets taken.moves) since_is moves;
    stays = stays;
  }
  takes_told (Err no_take.Gone) revision of map moves gone = gone.0 refl
  takes_told (Err no_take.Memory) revision of map moves gone = stays
