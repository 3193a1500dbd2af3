-- The map of what was taken, as it is made from what is kept, and published.
use Rattle.std.proofs.Common.{◌≡◌, ◌≢◌, ℕ, ◌≤◌, ◌⊎◌, inl, inr, List, Option, None, Some, IfSome, option_map, refl, sym, ap, ◌∙◌, subst, arith}
use Rattle.std.specs.Arc.{arc_value}
use Rattle.std.proofs.lemmas.Option.{same_Some}
use Rattle.pol_history_log.specs.Asked.{or_none}
use Rattle.pol_set_moves.specs.Moves.{TellsMovesSince}
use Rattle.pol_kept_map.specs.Work.{map_of}
use Rattle.pol_map_changes.specs.Changes.{changed, table_of}
use Rattle.pol_slot_map.specs.declared.follow.Followed.{Followed}
use Rattle.pol_slot_map.specs.Follow.{IsShown, MayApply, changed_by, led}
use Rattle.pol_slot_map.specs.Followed.{Follows, id_in, table_then}
use Rattle.pol_slot_map.proofs.Applying.{may_apply}
use Rattle.pol_slot_map.proofs.Keeping.{follows-on, follows-shown, follows-start, follows-stays}
use Rattle.pol_history.specs.declared.event.EndpointId.{EndpointId}
use Rattle.pol_history.specs.declared.event.HistoryEvent.{HistoryEvent}
use Rattle.pol_history.specs.Commits.{commits_in, live_endpoint, revision_of, state_after, state_now}
use Rattle.pol_history.specs.Legal.{IsLegal}
use Rattle.pol_history.specs.Machine.{endpoint_id}
use Rattle.pol_history.proofs.Cuts.{state-now}
use Rattle.pol_history.proofs.Names.{slot-live}
use Rattle.pol_history.proofs.Own.{legal_prefix, map-prefix, revision-prefix, state-prefix}
use Rattle.pol_mapkey.specs.Entries.{Entry as MapEntry}
use Rattle.pol_model.specs.PolicyMap.{policy_map}
use Rattle.pol_model.specs.State.{State}
use Rattle.pol_model.specs.declared.options.Options.{Options}
use Rattle.pol_taken.specs.declared.taken.Taken.{Taken}
use Rattle.pol_machine.specs.Parts.{IsMadeOf, MayGo, WasTried, WentTo}
use Rattle.pol_machine.specs.Rows.{RowsOf}
use Rattle.pol_machine.specs.Stands.{GoesFrom, IsTakenFor, shown_in}

-- what is kept of the endpoint that was taken
abbrev pub IsOfTaken : Options → List HistoryEvent → Taken → Followed → Type 0
IsOfTaken options before taken f = GoesFrom options before taken f × (id_in f ≡ endpoint_id taken.endpoint)

module _ (options : Options) (history : List HistoryEvent) (rows : RowsOf) (slot : ℕ) (taken : Taken) (is : IsTakenFor options history rows slot taken)
    (legal : IsLegal options history) where
  abbrev before : List HistoryEvent
  before = is.before

  abbrev id : EndpointId
  id = endpoint_id taken.endpoint

  legal_before : IsLegal options before
  legal_before = legal_prefix options before history is.begins legal

  -- ---- it may be made

  applies : (f : Followed) → GoesFrom options before taken f → f.kept ≢ taken.revision → MayApply f.work (arc_value taken.filters) taken.sets taken.moves
  applies f goes differs =
      elim goes.moves as (λ _. MayApply f.work (arc_value taken.filters) taken.sets taken.moves) [
        | inl same ↦ absurd (differs same)
        | inr told ↦ may_apply options (commits_in before) f.kept goes.follows.within f.work goes.follows.row slot taken goes.follows.filters goes.follows.sets is.is told
      ]

  pub may_go : (work : Option Followed) → IfSome work (GoesFrom options before taken) → MayGo work taken
  may_go None goes = tt
  may_go (Some f) goes = applies f goes

  -- ---- it is made

  kept_same : (old made : Followed) → made.kept ≡ old.kept → GoesFrom options before taken old
      → (made.kept ≡ taken.revision) ⊎ TellsMovesSince options (commits_in before) (Some made.kept) taken.sets taken.moves
  kept_same old made same goes =
      elim goes.moves as (λ _. (made.kept ≡ taken.revision) ⊎ TellsMovesSince options (commits_in before) (Some made.kept) taken.sets taken.moves) [
        | inl at ↦ inl (same ∙ at)
        | inr told ↦ inr (subst (λ (n : ℕ). TellsMovesSince options (commits_in before) (Some n) taken.sets taken.moves) (sym same) told)
      ]

  pub went : (old : Option Followed) (made : Followed) → IfSome old (IsOfTaken options before taken) → WentTo old taken made → IsOfTaken options before taken made
  went None made of start = (
    record { follows = follows-start options before legal_before slot taken is.is is.revision is.made made start; moves = inl start.kept },
    λ i. record { name = start.name i; added = start.added i },
  )
  went (Some old) made of (inl stays) = (
    record { follows = follows-stays options before old made of.0.follows stays; moves = kept_same old made stays.kept of.0 },
    (λ i. record { name = stays.follows.name i; added = stays.follows.added i }) ∙ of.1,
  )
  went (Some old) made of (inr on) = (
    record { follows = follows-on options before legal_before slot taken is.is is.revision is.made old made of.1 of.0.follows on; moves = inl on.kept },
    (λ i. record { name = on.follows.name i; added = on.follows.added i }) ∙ of.1,
  )

  -- the map that was published last stays so
  pub went_shown : (old : Option Followed) (made : Followed) → WentTo old taken made → made.shown ≡ shown_in old
  went_shown None made start = start.shown
  went_shown (Some old) made (inl stays) = stays.follows.shown
  went_shown (Some old) made (inr on) = on.follows.shown

  -- ---- the map that was made is the endpoint's

  pub then_is : state_after options history taken.revision ≡ state_now options before
  then_is =
      state-prefix options before history taken.revision is.begins (omega (arith, is.revision))
      ∙ ap (λ (n : ℕ). state_after options before n) is.revision
      ∙ state-now options before

  pub within : taken.revision ≤ revision_of history
  within = let fewer = revision-prefix before history is.begins in omega (arith, fewer, is.revision)

  live_before : live_endpoint id (state_now options before) ≡ Some taken.endpoint
  live_before = slot-live options before legal_before slot taken.endpoint is.is.endpoint

  pub live_then : live_endpoint id (state_after options history taken.revision) ≡ Some taken.endpoint
  live_then = ap (λ (s : State). live_endpoint id s) then_is ∙ live_before

  module _ (old : Option Followed) (made : Followed) (of : IfSome old (IsOfTaken options before taken)) (made_of : IsMadeOf old taken made) where
    pub made_is : IsOfTaken options before taken made
    made_is = went old made of made_of.went

    pub made_map : map_of made.work ≡ policy_map options (state_after options history taken.revision) taken.endpoint
    made_map =
        let follows = made_is.0.follows in
        let state : state_after options before made.kept ≡ state_now options before =
        ap (λ (n : ℕ). state_after options before n) (made_of.kept ∙ is.revision) ∙ state-now options before in
        let live : live_endpoint (id_in made) (state_after options before made.kept) ≡ Some taken.endpoint =
        (λ i. live_endpoint (made_is.1 i) (state i)) ∙ live_before in
        same_Some (map_of made.work) (policy_map options (state_now options before) taken.endpoint)
        (sym follows.canonical ∙ ap (option_map (policy_map options (state_after options before made.kept))) live
        ∙ ap (λ (s : State). Some (policy_map options s taken.endpoint)) state)
        ∙ ap (λ (s : State). policy_map options s taken.endpoint) (sym then_is)

    -- the table at the revision that was shown is the same in the history
    then_prefix : (shown : Option ℕ) → IfSome shown (λ revision. revision ≤ revision_of before) → table_then options history id shown ≡ table_then options before id shown
    then_prefix None shown_within = refl
    then_prefix (Some revision) shown_within =
        ap (λ (map : Option (List MapEntry)). table_of (or_none map)) (map-prefix options before history id revision is.begins shown_within)

    -- and the changes lead from there to its table
    pub made_leads : changed made.pending (table_then options history id made.shown) ≡ table_of (map_of made.work)
    made_leads =
        let follows = made_is.0.follows in
        let all : led made (table_then options before (id_in made) made.shown) ≡ changed made.pending (table_then options before id made.shown) =
        λ i. changed_by (made_of.joined i) (changed made.pending (table_then options before (made_is.1 i) made.shown)) in
        ap (changed made.pending) (then_prefix made.shown follows.shown_within) ∙ sym all ∙ follows.leads

    -- what is kept once it was published
    pub published_is : (work : Followed) → IsShown made work → Follows options before work × (id_in work ≡ id) × (work.shown ≡ Some taken.revision)
    published_is work shown = (
      follows-shown options before made work made_is.0.follows shown,
      (λ i. record { name = shown.name i; added = shown.added i }) ∙ made_is.1,
      shown.shown ∙ ap (λ (n : ℕ). Some n) made_of.kept,
    )

  -- ---- after want of memory

  pub tried : (old new : Option Followed) → IfSome old (IsOfTaken options before taken) → WasTried old taken new → IfSome new (IsOfTaken options before taken)
  tried old new of (inl same) = subst (λ (work : Option Followed). IfSome work (IsOfTaken options before taken)) (sym same) of
  tried old new of (inr made) =
      subst (λ (work : Option Followed). IfSome work (IsOfTaken options before taken)) (sym made.1) (went old made.0 of made.2)

  pub tried_shown : (old new : Option Followed) → WasTried old taken new → shown_in new ≡ shown_in old
  tried_shown old new (inl same) = ap shown_in same
  tried_shown old new (inr made) = ap shown_in made.1 ∙ went_shown old made.0 made.2
