-- What the selectors tell of earlier revisions, while a request is prepared, done or given up.
use Rattle.std.proofs.Common.{◌≡◌, ℕ, ◌<◌, ◌≤◌, ◌++◌, List, [], ◌∷◌, length, Option, None, Some, sym, subst, arith}
use Rattle.std.specs.Prelude.{Err, IfSome}
use Rattle.std.specs.List.{AllByRecursion}
use Rattle.pol_sets.specs.declared.sets.Move.{Move}
use Rattle.pol_sets.specs.declared.sets.SetRow.{SetRow}
use Rattle.pol_model.specs.declared.options.Options.{Options}
use Rattle.pol_model.specs.declared.request.Request.{Request}
use Rattle.pol_model.specs.After.{after, state_of}
use Rattle.pol_model.specs.State.{State}
use Rattle.pol_model_laws.specs.Keeps.{Keeps}
use Rattle.pol_selcache.specs.Cache.{IsSound as AreSound, carried}
use Rattle.pol_selcache.specs.Live.{AreLive, number_of}
use Rattle.pol_peers.specs.Numbering.{GainsSelectors, LosesSelectors}
use Rattle.pol_requests.specs.declared.prepared.Prepared.{Prepared}
use Rattle.pol_requests.specs.declared.error.PrepareError.{PrepareError}
use Rattle.pol_requests.specs.Prepared.{IsPrepared, PreparesOrNot, TakesBack}
use Rattle.pol_store.specs.Store.{StandsFor, Stored}
use Rattle.pol_set_moves.specs.Chained.{IsChained, IsChainedBefore}
use Rattle.pol_set_moves.specs.Moves.{TellsMovesSince, moves_by}
use Rattle.pol_set_moves.proofs.MoveLaws.{moves_told_since}
use Rattle.pol_set_moves.proofs.Chains.{chain_goes_on, chain_stays, gains_undone}
use Rattle.pol_repo.specs.Inside.{IsSound, IsTold, seen_as}
use Rattle.pol_repo.specs.Repository.{Repository, state_in}
use Rattle.pol_repo.proofs.Standing.{counts, keeps_now, none_prepared, prepared_now, revision_is, stands_now}

module _ (options : Options) (journal : List Request) (len capacity : ℕ) (stored : Stored) (prepared : Option Prepared) (self : Repository)
    (seen : seen_as options journal stored prepared ≡ self) (sound : IsSound options journal len capacity stored prepared)
    (nexts : List ℕ) (many room : ℕ) (told : IsTold options journal nexts many room stored prepared) where
  abbrev then : State
  then = state_of options journal

  -- ---- with nothing prepared
  module _ (idle : self.prepared ≡ None) where
    pub chained_now : IsChained options journal nexts stored.cache
    chained_now =
        let idly : IsTold options journal nexts many room stored None =
        subst (λ (o : Option Prepared). IsTold options journal nexts many room stored o) (none_prepared options journal len capacity stored prepared self seen sound idle) told in
        idly

    -- ---- what is told since a revision
    since_known : (known : Option ℕ) → IfSome known (λ revision. revision ≤ (state_in self).revision) → IfSome known (λ revision. revision ≤ length journal)
    since_known None within = tt
    since_known (Some revision) within =
        omega (arith, within, revision_is options journal len capacity stored prepared self seen sound, counts options journal len capacity stored prepared self seen sound)

    since_listed : (known : Option ℕ) → IfSome known (λ revision. revision ≤ length journal) → IfSome known (λ revision. revision < length nexts)
    since_listed None within = tt
    since_listed (Some revision) within = omega (arith, within, chained_now.counted)

    pub since_within : (known : Option ℕ) → IfSome known (λ revision. revision ≤ (state_in self).revision) → IfSome known (λ revision. revision < length nexts)
    since_within known within = since_listed known (since_known known within)

    pub moves_are : (known : Option ℕ) → IfSome known (λ revision. revision ≤ (state_in self).revision) → (rows : List SetRow)
        → AllByRecursion (λ row. number_of row.peer stored.cache.live ≡ Some row.selector) rows → (moves : Option (List Move)) → moves ≡ moves_by stored.cache.log nexts known rows
        → TellsMovesSince self.options self.journal known rows moves
    moves_are known within rows are moves is =
        subst (λ (r : Repository). TellsMovesSince r.options r.journal known rows moves) seen
        (subst (λ (ms : Option (List Move)). TellsMovesSince options journal known rows ms) (sym is)
        (moves_told_since options journal nexts stored.cache chained_now known (since_known known within) rows are))

    module _ (journal' : List Request) (nexts' : List ℕ) (many' room' : ℕ) (stored' : Stored) (same : journal' ≡ journal) (same_nexts : nexts' ≡ nexts)
        (gains : GainsSelectors stored.cache stored'.cache) where
      told_with : (o : Option Prepared) → IsTold options journal nexts many' room' stored' o → IsTold options journal' nexts' many' room' stored' o
      told_with o is =
          subst (λ (requests : List Request). IsTold options requests nexts' many' room' stored' o) (sym same)
          (subst (λ (ns : List ℕ). IsTold options journal ns many' room' stored' o) (sym same_nexts) is)

      -- a request is prepared
      pub told_prepared : AreSound stored.cache → (prepared' : Prepared) → many' < room' → IsTold options journal' nexts' many' room' stored' (Some prepared')
      told_prepared fit prepared' more =
          told_with (Some prepared') (
            record {
              old = stored;
              stands = stands_now options journal len capacity stored prepared self seen sound idle;
              sound = fit;
              chained = chained_now;
              gains = gains;
            },
            more,
          )

      -- or it isn't
      pub told_refused : (request : Request) (error : PrepareError) → PreparesOrNot request stored stored' (Err error) → AreLive stored'.cache.live → IsTold options journal' nexts' many' room' stored' prepared
      told_refused request error prepares are =
          let stands = stands_now options journal len capacity stored prepared self seen sound idle in
          let given = prepares then (keeps_now options journal len capacity stored prepared self seen sound) stands in
          subst (λ (o : Option Prepared). IsTold options journal' nexts' many' room' stored' o) (sym (none_prepared options journal len capacity stored prepared self seen sound idle))
          (told_with None (chain_stays options journal stored stored' nexts stands given.1 are gains chained_now))

  -- ---- the request that is prepared is done, or given up
  module _ (request : Request) (is_prepared : self.prepared ≡ Some request) (one : Prepared) (is : prepared ≡ Some one) where
    told_before : IsChainedBefore options journal nexts stored.cache × (many < room)
    told_before =
        let now : IsTold options journal nexts many room stored (Some one) = subst (λ (o : Option Prepared). IsTold options journal nexts many room stored o) is told in
        now

    pub nexts_room : many < room
    nexts_room = told_before.1

    its : IsPrepared then request stored one
    its = prepared_now options journal len capacity stored prepared self seen sound request is_prepared one is

    keeps : Keeps then
    keeps = keeps_now options journal len capacity stored prepared self seen sound

    pub told_accepted : (journal' : List Request) (nexts' : List ℕ) (many' room' : ℕ) (stored' : Stored) (left : Option Prepared)
        → journal' ≡ journal ++ request ∷ [] → nexts' ≡ nexts ++ stored'.cache.next ∷ [] → left ≡ None → AreSound stored.cache → AreSound stored'.cache
        → LosesSelectors (carried one.plan stored.cache) stored'.cache
        → ((s : State) (r : Request) → Keeps s → IsPrepared s r stored one → StandsFor (after s r) stored')
        → IsTold options journal' nexts' many' room' stored' left
    told_accepted journal' nexts' many' room' stored' left longer more none fit fit' loses done =
        let old = told_before.0 in
        subst (λ (o : Option Prepared). IsTold options journal' nexts' many' room' stored' o) (sym none)
        (subst (λ (requests : List Request). IsTold options requests nexts' many' room' stored' None) (sym longer)
        (subst (λ (ns : List ℕ). IsTold options (journal ++ request ∷ []) ns many' room' stored' None) (sym more)
        (chain_goes_on options journal request old.old stored' nexts sound.without_faults old.stands (record {
          mid = stored.cache;
          plan = one.plan;
          gains = old.gains;
          sound = fit;
          may = its.may;
          refs = its.refs;
          exact = its.exact;
          prepares = its.plan;
          loses = loses;
          stands = done then request keeps its;
          new_sound = fit';
        }) old.chained)))

    pub told_withdrawn : (many' room' : ℕ) (stored' : Stored) (left : Option Prepared) → left ≡ None → LosesSelectors stored.cache stored'.cache → TakesBack stored one stored' → AreLive stored'.cache.live
        → IsTold options journal nexts many' room' stored' left
    told_withdrawn many' room' stored' left none loses back are =
        let old = told_before.0 in
        let stands = back then request keeps its in
        subst (λ (o : Option Prepared). IsTold options journal nexts many' room' stored' o) (sym none)
        (chain_stays options journal old.old stored' nexts old.stands stands are (gains_undone then old.old stored' stored.cache old.stands stands old.sound.live old.gains loses) old.chained)
