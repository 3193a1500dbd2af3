-- What a slot keeps, beside what was taken at its history.
use Rattle.std.proofs.Common.{◌≡◌, ℕ, ◌==◌, ◌⊎◌, inl, inr, List, Some, option_map, sym, ap, ◌∙◌, subst}
use Rattle.std.specs.Arc.{arc_value}
use Rattle.std.proofs.lemmas.Bool.{eqb-true}
use Rattle.std.proofs.lemmas.Option.{same_Some}
use Rattle.pol_model.specs.declared.options.Options.{Options}
use Rattle.pol_model.specs.declared.row.Endpoint.{Endpoint}
use Rattle.pol_model.specs.PolicyMap.{policy_map}
use Rattle.pol_model.specs.State.{State}
use Rattle.pol_model_laws.proofs.Membership.{find-In}
use Rattle.pol_map_changes.specs.Changes.{changed, table_of}
use Rattle.pol_kept_map.specs.Work.{map_of}
use Rattle.pol_history.specs.declared.event.HistoryEvent.{HistoryEvent}
use Rattle.pol_history.specs.Commits.{commits_in, live_endpoint, state_after, state_now}
use Rattle.pol_history.specs.Machine.{endpoint_id}
use Rattle.pol_history.proofs.Cuts.{state-now}
use Rattle.pol_history.proofs.Names.{slot-live}
use Rattle.pol_taken.specs.declared.taken.Taken.{Taken}
use Rattle.pol_slot_map.specs.declared.follow.Followed.{Followed}
use Rattle.pol_slot_map.specs.Follow.{GoesOn, MayApply, Stays, changed_by, led}
use Rattle.pol_slot_map.specs.Followed.{Follows, id_in, table_then}
use Rattle.pol_slot_map.proofs.Applying.{may_apply}
use Rattle.pol_slot_map.proofs.Keeping.{follows-on, follows-stays}
use Rattle.pol_node.specs.Slot.{IsMade, IsTakenAt, TellsMovesFrom}

module _ (options : Options) (history : List HistoryEvent) (slot : ℕ) (taken : Taken) (is : IsTakenAt options history slot taken) where
  pub own_slot : taken.endpoint.slot ≡ slot
  own_slot =
      eqb-true taken.endpoint.slot slot
      (find-In (λ (e : Endpoint). e.slot == slot) taken.endpoint (state_now options history).endpoints is.is.endpoint).1

  pub of_own_slot : IsTakenAt options history taken.endpoint.slot taken
  of_own_slot = subst (λ (n : ℕ). IsTakenAt options history n taken) (sym own_slot) is

  module _ (f : Followed) (follows : Follows options history f) where
    -- it may be applied to what is kept
    pub applies : TellsMovesFrom options history (Some f.kept) taken → MayApply f.work (arc_value taken.filters) taken.sets taken.moves
    applies told =
        may_apply options (commits_in history) f.kept follows.within f.work follows.row slot taken follows.filters follows.sets is.is told

    -- what is kept after it was applied, or wasn't
    pub went_on : (new : Followed) → id_in f ≡ endpoint_id taken.endpoint
        → Stays f new ⊎ GoesOn (arc_value taken.filters) taken.sets taken.revision f new → Follows options history new
    went_on new same (inl stays) = follows-stays options history f new follows stays
    went_on new same (inr on) = follows-on options history is.legal slot taken is.is is.revision is.made f new same follows on

    module _ (made : IsMade taken f) where
      -- its map is the endpoint's
      pub made_map : map_of f.work ≡ policy_map options (state_now options history) taken.endpoint
      made_map =
          let state : state_after options history f.kept ≡ state_now options history =
          ap (λ (n : ℕ). state_after options history n) (made.kept ∙ is.revision) ∙ state-now options history in
          let live : live_endpoint (id_in f) (state_after options history f.kept) ≡ Some taken.endpoint =
          (λ i. live_endpoint (made.id i) (state i)) ∙ slot-live options history is.legal slot taken.endpoint is.is.endpoint in
          same_Some (map_of f.work) (policy_map options (state_now options history) taken.endpoint)
          (sym follows.canonical ∙ ap (option_map (policy_map options (state_after options history f.kept))) live
          ∙ ap (λ (s : State). Some (policy_map options s taken.endpoint)) state)

      -- the changes lead to it
      pub leads_there : changed f.pending (table_then options history (endpoint_id taken.endpoint) f.shown)
          ≡ table_of (policy_map options (state_now options history) taken.endpoint)
      leads_there =
          let all : led f (table_then options history (id_in f) f.shown) ≡ changed f.pending (table_then options history (endpoint_id taken.endpoint) f.shown) =
          λ i. changed_by (made.joined i) (changed f.pending (table_then options history (made.id i) f.shown)) in
          sym all ∙ follows.leads ∙ ap table_of made_map
