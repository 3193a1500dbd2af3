-- A take of the parts is one of the machine.
use Rattle.std.proofs.Common.{◌≡◌, ℕ, ◌==◌, ◌≤◌, inl, inr, cond, List, Option, None, Some, IfSome, Result, Ok, Err, option_map, refl, sym, ap, ◌∙◌, subst, arith}
use Rattle.std.specs.Arc.{arc_value}
use Rattle.std.proofs.lemmas.Bool.{eqb-true}
use Rattle.std.proofs.lemmas.Option.{IfSome_then, same_Some}
use Rattle.pol_set_moves.specs.Moves.{TellsMovesSince}
use Rattle.pol_distill.specs.Distilled.{distilled}
use Rattle.pol_slot_map.specs.declared.follow.Followed.{Followed}
use Rattle.pol_history.specs.declared.event.HistoryEvent.{HistoryEvent}
use Rattle.pol_history.specs.declared.machine.Event.TheVariants as step
use Rattle.pol_history.specs.declared.machine.Reply.{Reply}
use Rattle.pol_history.specs.declared.machine.Reply.TheVariants as reply
use Rattle.pol_history.specs.Commits.{commits_in, revision_of, state_now}
use Rattle.pol_history.specs.Machine.{Machine, Stepped, endpoint_id, endpoint_in, step_take, taken_now, with_taken}
use Rattle.pol_history.specs.MachineKeeps.{IsSound}
use Rattle.pol_history.proofs.Beginnings.{prefix_self}
use Rattle.pol_history.proofs.Steps.{step_keeps}
use Rattle.pol_model.specs.PolicyMap.{policy_map}
use Rattle.pol_model.specs.State.{State}
use Rattle.pol_model.specs.declared.options.Options.{Options}
use Rattle.pol_model.specs.declared.row.Endpoint.{Endpoint}
use Rattle.pol_repo.specs.Repository.{state_in}
use Rattle.pol_taken.specs.OfState.{IsTakenOf}
use Rattle.pol_taken.specs.declared.taken.Taken.{Taken}
use Rattle.pol_machine.specs.Parts.{Takes, TakesOf, WasTaken, with_slot}
use Rattle.pol_machine.specs.Rows.{kept_in, since_of}
use Rattle.pol_machine.specs.Stands.{GoesFrom, IsKeptWork, IsTakenFor, Kept, StandsFor, Steps, options_of, taken_as}
use Rattle.pol_machine.specs.declared.row.MachineRow.{MachineRow}
use Rattle.pol_repo_history.proofs.AtHistory.{revision_at, state_at}
use Rattle.pol_machine.proofs.Choices.{if_either, if_mapped}
use Rattle.pol_machine.proofs.RowsKept.{takes_same}
use Rattle.pol_repo_history.proofs.Unlimited.{moves_at, taken_at}

-- ---- what is kept is of a revision of the history

work_within : (options : Options) (history : List HistoryEvent) (name : List ℕ) (added : ℕ) (work : Option Followed) → IfSome work (IsKeptWork options history name added)
    → IfSome (option_map (λ f. f.kept) work) (λ revision. revision ≤ revision_of history)
work_within options history name added None is = tt
work_within options history name added (Some f) is = is.follows.within

module _ (k : Kept) (m : Machine) (stands : StandsFor k m) where
  abbrev options : Options
  options = options_of k

  abbrev history : List HistoryEvent
  history = m.history

  row_within : (name : List ℕ) (row : Option MachineRow) → k.rows name ≡ row → IfSome (kept_in row) (λ revision. revision ≤ revision_of history)
  row_within name None there = tt
  row_within name (Some row) there = work_within options history name row.added row.work (stands.works name row there).work

  endpoint_within : (endpoint : Option Endpoint) → IfSome (since_of k.rows endpoint) (λ revision. revision ≤ revision_of history)
  endpoint_within None = tt
  endpoint_within (Some endpoint) = row_within endpoint.name (k.rows endpoint.name) refl

  pub since_within : (endpoint : Option Endpoint) → IfSome (since_of k.rows endpoint) (λ revision. revision ≤ (state_in k.repo).revision)
  since_within endpoint =
      let now = revision_at options history k.repo stands.at in
      IfSome_then (since_of k.rows endpoint) (endpoint_within endpoint) (λ (n : ℕ) known. omega (arith, now, known))

  -- ---- what was taken

  module _ (slot : ℕ) where
    goes_now : (name : List ℕ) (added : ℕ) (taken : Taken) (work : Option Followed) → IfSome work (IsKeptWork options history name added)
        → TellsMovesSince options (commits_in history) (option_map (λ f. f.kept) work) taken.sets taken.moves → IfSome work (GoesFrom options history taken)
    goes_now name added taken None is told = tt
    goes_now name added taken (Some f) is told = record { follows = is.follows; moves = inr told }

    module _ (taken : Taken) (is : IsTakenOf k.repo.options (state_in k.repo) slot taken)
        (made : distilled (arc_value taken.filters) taken.sets ≡ policy_map k.repo.options (state_in k.repo) taken.endpoint)
        (moves : TellsMovesSince k.repo.options k.repo.journal (since_of k.rows (endpoint_in slot (state_in k.repo).endpoints)) taken.sets taken.moves) where
      state : state_in k.repo ≡ state_now options history
      state = state_at options history k.repo stands.at

      taken_is : IsTakenOf options (state_now options history) slot taken
      taken_is = taken_at options history k.repo stands.at slot taken is

      revision_is : taken.revision ≡ revision_of history
      revision_is = is.revision ∙ revision_at options history k.repo stands.at

      map_is : distilled (arc_value taken.filters) taken.sets ≡ policy_map options (state_now options history) taken.endpoint
      map_is =
          made
          ∙ ap (λ (o : Options). policy_map o (state_in k.repo) taken.endpoint) stands.at.options_same
          ∙ ap (λ (s : State). policy_map options s taken.endpoint) state

      moves_are : TellsMovesSince options (commits_in history) (kept_in (k.rows taken.endpoint.name)) taken.sets taken.moves
      moves_are =
          subst (λ (e : Option Endpoint). TellsMovesSince options (commits_in history) (since_of k.rows e) taken.sets taken.moves) is.endpoint
          (moves_at options history k.repo stands.at (since_of k.rows (endpoint_in slot (state_in k.repo).endpoints)) taken.sets taken.moves moves)

      taken_for : IsTakenFor options history k.rows slot taken
      taken_for = record {
        before = history;
        begins = prefix_self history;
        revision = revision_is;
        is = taken_is;
        made = map_is;
        goes = λ row there added.
            goes_now taken.endpoint.name row.added taken row.work (stands.works taken.endpoint.name row there).work
            (subst (λ (r : Option MachineRow). TellsMovesSince options (commits_in history) (kept_in r) taken.sets taken.moves) there moves_are);
      }

      abbrev took : Kept
      took = record k { takes = with_slot slot (Some taken) k.takes }

      same_taken : taken_as taken ≡ taken_now history taken.endpoint
      same_taken = λ i. record { endpoint = endpoint_id taken.endpoint; revision = revision_is i }

      take_stands : StandsFor took (with_taken slot (Some (taken_now history taken.endpoint)) m)
      take_stands = record {
        few = stands.few;
        sound = subst (λ (s : Stepped). IsSound options s.1) (ap (step_take m slot) taken_is.endpoint) (step_keeps options m (step.Take slot) stands.sound);
        at = stands.at;
        live = stands.live;
        works = stands.works;
        taken = λ other.
            if_mapped taken_as (other == slot) (Some taken) (k.takes other)
            ∙ (λ i. cond (other == slot) (Some (same_taken i)) (stands.taken other i));
        takes = λ other one there.
            elim (if_either (other == slot) (Some taken) (k.takes other) (Some one) there) as (λ _. IsTakenFor options history k.rows other one) [
              | inl new ↦
                  subst (λ (t : Taken). IsTakenFor options history k.rows other t) (same_Some taken one new.1)
                  (subst (λ (n : ℕ). IsTakenFor options history k.rows n taken) (sym (eqb-true other slot new.0)) taken_for)
              | inr was ↦ stands.takes other one was.1
            ];
      }

    -- ---- the step

    took_so : (E : Type 0) (new : TakesOf) (revision : ℕ) → WasTaken k.repo k.rows slot k.takes new revision
        → Steps {E = E} options m (step.Take slot) (record k { takes = new }) (Ok (reply.Took revision))
    took_so E new revision was =
        let found = (taken_is was.taken was.is was.made was.moves).endpoint in
        let whole : took was.taken was.is was.made was.moves ≡ record k { takes = new } = λ i. record k { takes = λ other. sym (was.takes other) i } in
        let at : revision ≡ revision_of history = was.same ∙ revision_is was.taken was.is was.made was.moves in
        subst (λ (k2 : Kept). Steps {E = E} options m (step.Take slot) k2 (Ok (reply.Took revision))) whole
        (subst (λ (e : Option Endpoint). (reply.Took revision ≡ (step_take m slot e).0) × StandsFor (took was.taken was.is was.made was.moves) (step_take m slot e).1) (sym found)
        (ap reply.Took at, take_stands was.taken was.is was.made was.moves))

    same_parts : (new : TakesOf) → new ≡ k.takes → k ≡ record k { takes = new }
    same_parts new same = λ i. record k { takes = sym same i }

    none_so : (E : Type 0) (new : TakesOf) → Takes {E = E} k.repo k.rows slot k.takes new (Ok reply.Gone)
        → Steps {E = E} options m (step.Take slot) (record k { takes = new }) (Ok reply.Gone)
    none_so E new was =
        let none : endpoint_in slot (state_now options history).endpoints ≡ None =
        ap (λ (s : State). endpoint_in slot s.endpoints) (sym (state_at options history k.repo stands.at)) ∙ was.0 in
        subst (λ (k2 : Kept). Steps {E = E} options m (step.Take slot) k2 (Ok reply.Gone)) (same_parts new (takes_same k.takes new was.1))
        (subst (λ (e : Option Endpoint). (reply.Gone ≡ (step_take m slot e).0) × StandsFor k (step_take m slot e).1) (sym none) (refl, stands))

    pub take_steps : {E : Type 0} (new : TakesOf) (result : Result Reply E) → Takes k.repo k.rows slot k.takes new result
        → Steps options m (step.Take slot) (record k { takes = new }) result
    take_steps {E} new (Ok (reply.Took revision)) was = took_so E new revision was
    take_steps {E} new (Ok reply.Gone) was = none_so E new was
    take_steps {E} new (Ok (reply.Committed done)) was = absurd was
    take_steps {E} new (Ok (reply.Refused refused)) was = absurd was
    take_steps {E} new (Ok reply.Idle) was = absurd was
    take_steps {E} new (Ok (reply.Already r)) was = absurd was
    take_steps {E} new (Ok (reply.Full r n)) was = absurd was
    take_steps {E} new (Ok (reply.Published r)) was = absurd was
    take_steps {E} new (Ok (reply.Verdict r word)) was = absurd was
    take_steps {E} new (Ok (reply.NoEndpoint r)) was = absurd was
    take_steps {E} new (Ok (reply.NotYet r)) was = absurd was
    take_steps {E} new (Err error) was = subst (λ (k2 : Kept). StandsFor k2 m) (same_parts new (takes_same k.takes new was)) stands
