-- What the parts of a repository tell of its state, and of the request that is prepared.
use Rattle.std.proofs.Common.{◌≡◌, ℕ, ◌==◌, ◌-◌, ◌<◌, ◌^◌, ◌++◌, ◌&&◌, not, List, [], ◌∷◌, length, IsSome, Option, None, Some, option_map, refl, sym, ap, ◌∙◌, subst, arith}
use Rattle.std.specs.Prelude.{Ok, Err, ◌≤◌}
use Rattle.std.specs.Option.{option_map_or}
use Rattle.pol_labels.specs.declared.label.Label.{Label}
use Rattle.pol_model.specs.declared.options.Options.{Options}
use Rattle.pol_model.specs.declared.request.Request.{Request}
use Rattle.pol_model.specs.declared.request.Request.TheVariants.{AddEndpoint, RemoveEndpoint, AddIdentity, RemoveIdentity, Apply, Remove, SetMode}
use Rattle.pol_model.specs.declared.row.IdentityRow.{IdentityRow}
use Rattle.pol_model.specs.declared.answer.CommitError.{CommitError}
use Rattle.pol_model.specs.declared.answer.CommitError.TheVariants.{Refused}
use Rattle.pol_model.specs.declared.answer.Committed.{Committed}
use Rattle.pol_model.specs.declared.answer.Fault.{Fault}
use Rattle.pol_model.specs.After.{after, state_of, start}
use Rattle.pol_model.specs.Commits.{Commits}
use Rattle.pol_model.specs.Committed.{committed_of}
use Rattle.pol_model.specs.Fault.{fault_of}
use Rattle.pol_labels.specs.Same.{same_labels}
use Rattle.pol_model.specs.declared.limits.TheConstants.{CLUSTER_FIRST}
use Rattle.pol_model.specs.Identities.{free_number, is_local, labels_held, number_for}
use Rattle.pol_model.specs.State.{State}
use Rattle.pol_model.proofs.AscendingStates.{RowsAscend}
use Rattle.pol_model.proofs.Histories.{state_of-revision}
use Rattle.pol_model_laws.specs.Holding.{rows_taken}
use Rattle.pol_model_laws.specs.Keeps.{Keeps}
use Rattle.pol_model_laws.specs.WithoutFaults.{MayCommit}
use Rattle.pol_model_laws.proofs.HoldingLaws.{held_has, labels_row_is}
use Rattle.pol_model_laws.proofs.KeepsAll.{state_keeps}
use Rattle.pol_model_laws.proofs.Lives.{after_append}
use Rattle.pol_model_laws.proofs.Membership.{found-some}
use Rattle.pol_model_laws.proofs.StateLaws.{commits-more}
use Rattle.pol_requests.specs.declared.prepared.Prepared.{Prepared}
use Rattle.pol_requests.specs.declared.error.PrepareError.{PrepareError}
use Rattle.pol_requests.specs.declared.error.PrepareError.TheVariants.{Fault as WithFault}
use Rattle.pol_requests.specs.Prepared.{CanBeDone, IsCause as PrepareCause, IsPrepared, PreparesOrNot, TakesBack, change_for}
use Rattle.pol_store.specs.Store.{StandsFor, StandsForSome, Stored}
use Rattle.pol_selcache.specs.Live.{AreLive, label_selectors}
use Rattle.pol_repo.specs.Causes.{IsCause}
use Rattle.pol_repo.specs.Cost.{label_peers}
use Rattle.pol_repo.specs.Inside.{HasPrepared, IsSound, labels_of, request_of, seen_as}
use Rattle.pol_repo.specs.Repository.{Repository, state_in}
use Rattle.pol_repo.proofs.LabelPeers.{selectors_are_peers}

-- ---- the request that is prepared is told by its change and the rows
labels_told : (labels : List Label) (rows : List IdentityRow) → RowsAscend rows → labels_of (number_for labels rows) (labels_held labels rows) ≡ labels
labels_told labels rows ascend =
    let found = found-some (λ row. row.number == number_for labels rows) (labels_held labels rows) (held_has (λ row. not (is_local row.number) && same_labels row.labels labels) (record { number = free_number CLUSTER_FIRST rows; labels = labels; prefix = None; holders = 1 }) rows) in
    ap (λ (o : Option IdentityRow). option_map_or (λ row. row.labels) o []) found.1
    ∙ labels_row_is labels rows ascend found.0 found.1

module _ (s : State) (keeps : Keeps s) where
  request_told : (request : Request) → request_of (rows_taken s request) (change_for s request) ≡ request
  request_told (AddEndpoint name labels address) = refl
  request_told (RemoveEndpoint name) = refl
  request_told (AddIdentity name labels) = ap (λ (held : List Label). AddIdentity name held) (labels_told labels s.identities keeps.identities.numbers)
  request_told (RemoveIdentity name) = refl
  request_told (Apply policy) = refl
  request_told (Remove key) = refl
  request_told (SetMode mode) = refl

  pub request_is : (request : Request) (stored : Stored) (prepared : Prepared) → IsPrepared s request stored prepared → request_of stored.state.identities prepared.change ≡ request
  request_is request stored prepared is =
      ap (λ (rows : List IdentityRow). request_of rows prepared.change) is.like.identities
      ∙ ap (λ change. request_of (rows_taken s request) change) is.change
      ∙ request_told request

-- ---- what the parts are seen as
no_prepared : {X Y : Type 0} (f : X → Y) (o : Option X) → option_map f o ≡ None → o ≡ None
no_prepared f None none = refl
no_prepared f (Some x) none = absurd cc

some_prepared : {X Y : Type 0} (f : X → Y) (o : Option X) (y : Y) → option_map f o ≡ Some y → (x : X) × (o ≡ Some x) × (f x ≡ y)
some_prepared f None y some = absurd cc
some_prepared f (Some x) y some = (x, refl, cc)

module _ (options : Options) (journal : List Request) (len capacity : ℕ) (stored : Stored) where
  revision_of : (prepared : Option Prepared) → IsSound options journal len capacity stored prepared → stored.state.revision ≡ (state_of options journal).revision
  revision_of None sound = sound.inside.like.revision
  revision_of (Some prepared) sound = sound.inside.is_prepared.like.revision

module _ (options : Options) (journal : List Request) (len capacity : ℕ) (stored : Stored) (prepared : Option Prepared) (self : Repository)
    (seen : seen_as options journal stored prepared ≡ self) (sound : IsSound options journal len capacity stored prepared) where
  present : state_of options journal ≡ state_in self
  present = ap state_in seen

  pub keeps_now : Keeps (state_of options journal)
  keeps_now = state_keeps options journal sound.without_faults

  -- the journal has one request for each revision
  pub counts : stored.state.revision ≡ length journal
  counts = revision_of options journal len capacity stored prepared sound ∙ state_of-revision options journal

  pub revision_is : stored.state.revision ≡ (state_in self).revision
  revision_is = revision_of options journal len capacity stored prepared sound ∙ ap (λ (s : State). s.revision) present

  -- with nothing prepared the store stands for the present state
  module _ (idle : self.prepared ≡ None) where
    pub none_prepared : prepared ≡ None
    none_prepared = no_prepared _ prepared (ap (λ (r : Repository). r.prepared) seen ∙ idle)

    pub stands_now : StandsFor (state_of options journal) stored
    stands_now = let idly : IsSound options journal len capacity stored None = subst (λ (o : Option Prepared). IsSound options journal len capacity stored o) none_prepared sound in idly.inside

    pub stands : StandsFor (state_in self) stored
    stands = subst (λ (s : State). StandsFor s stored) present stands_now

    pub stands_for_some : StandsForSome stored
    stands_for_some = record { state = state_of options journal; keeps = keeps_now; stands = stands_now }

    -- ---- a request is prepared
    module _ (request : Request) (journal' : List Request) (stored' : Stored) (same : journal' ≡ journal) where
      pub ready_ok : (prepared' : Prepared) → PreparesOrNot request stored stored' (Ok prepared') → IsPrepared (state_of options journal) request stored' prepared'
      ready_ok prepared' prepares = (prepares (state_of options journal) keeps_now stands_now).0

      pub prepared_sound : (prepared' : Prepared) (len' capacity' : ℕ) → stored.state.revision < 2 ^ 64 - 1 → len' < capacity' → PreparesOrNot request stored stored' (Ok prepared')
          → IsSound options journal' len' capacity' stored' (Some prepared')
      prepared_sound prepared' len' capacity' not_last room prepares =
          subst (λ (requests : List Request). IsSound options requests len' capacity' stored' (Some prepared')) (sym same)
          (record { without_faults = sound.without_faults; inside = record { request = request; is_prepared = ready_ok prepared' prepares; not_last = subst (λ (n : ℕ). n < 2 ^ 64 - 1) (revision_of options journal len capacity stored prepared sound) not_last; room = room } })

      pub prepared_seen : (prepared' : Prepared) → PreparesOrNot request stored stored' (Ok prepared')
          → seen_as options journal' stored' (Some prepared') ≡ record self { prepared = Some request }
      prepared_seen prepared' prepares =
          let is = request_is (state_of options journal) keeps_now request stored' prepared' (ready_ok prepared' prepares) in
          let with : Repository → Repository = λ r. record r { prepared = Some request } in
          (λ i. record { options = options; journal = same i; prepared = Some (is i) }) ∙ ap with seen

      pub prepared_no_fault : (prepared' : Prepared) → PreparesOrNot request stored stored' (Ok prepared') → fault_of (state_in self) request ≡ None
      prepared_no_fault prepared' prepares = subst (λ (s : State). fault_of s request ≡ None) present (ready_ok prepared' prepares).may.no_fault

      pub prepared_done : (prepared' : Prepared) (done : Committed) → PreparesOrNot request stored stored' (Ok prepared')
          → ((s : State) (request : Request) → Keeps s → IsPrepared s request stored' prepared' → done ≡ committed_of (after s request) request)
          → done ≡ committed_of (after (state_in self) request) request
      prepared_done prepared' done prepares answer =
          subst (λ (s : State). done ≡ committed_of (after s request) request) present (answer (state_of options journal) request keeps_now (ready_ok prepared' prepares))

      -- it isn't, and all is as before
      pub refused : (error : PrepareError) (len' capacity' : ℕ) → PreparesOrNot request stored stored' (Err error) → IsSound options journal' len' capacity' stored' prepared
      refused error len' capacity' prepares =
          subst (λ (requests : List Request). IsSound options requests len' capacity' stored' prepared) (sym same)
          (subst (λ (o : Option Prepared). IsSound options journal len' capacity' stored' o) (sym none_prepared)
          (record { without_faults = sound.without_faults; inside = (prepares (state_of options journal) keeps_now stands_now).1 }))

      pub refused_seen : seen_as options journal' stored' prepared ≡ self
      refused_seen = subst (λ (o : Option Prepared). seen_as options journal stored o ≡ self → seen_as options journal' stored' o ≡ self) (sym none_prepared)
          (λ was. (λ i. record { options = options; journal = same i; prepared = None }) ∙ was) seen

      pub prepared_rises : (prepared' : Prepared) → stored.state.revision < 2 ^ 64 - 1 → PreparesOrNot request stored stored' (Ok prepared') → stored'.state.revision < 2 ^ 64 - 1
      prepared_rises prepared' not_last prepares =
          subst (λ (n : ℕ). n < 2 ^ 64 - 1) (revision_of options journal len capacity stored prepared sound ∙ sym (ready_ok prepared' prepares).like.revision) not_last

      pub refused_cause : (error : PrepareError) (fault : Fault) (refusal : CommitError) → error ≡ WithFault fault → refusal ≡ Refused (record { revision = stored'.state.revision; fault = fault })
          → PreparesOrNot request stored stored' (Err error) → IsCause (state_in self) request refusal
      refused_cause error fault refusal is told prepares =
          let given = prepares (state_of options journal) keeps_now stands_now in
          let at : stored'.state.revision ≡ (state_in self).revision = given.1.like.revision ∙ ap (λ (s : State). s.revision) present in
          let cause : PrepareCause (state_in self) request (WithFault fault) = subst (λ (e : PrepareError). PrepareCause (state_in self) request e) is (subst (λ (s : State). PrepareCause s request error) present given.2) in
          subst (λ (e : CommitError). IsCause (state_in self) request e) (sym told) (record { fault = cause; revision = at })

    -- ---- what it takes
    pub few_steps : AreLive stored.cache.live → label_selectors stored.cache.live ≤ label_peers (state_in self).policies
    few_steps are = omega (arith, selectors_are_peers (state_in self).policies stored.cache.live stands.refs are)

  -- ---- the request that is prepared is done, or given up
  module _ (request : Request) (is_prepared : self.prepared ≡ Some request) where
    given : (one : Prepared) × (prepared ≡ Some one) × (request_of stored.state.identities one.change ≡ request)
    given = some_prepared _ prepared request (ap (λ (r : Repository). r.prepared) seen ∙ is_prepared)

    pub there_is : IsSome prepared
    there_is = subst (λ (o : Option Prepared). IsSome o) (sym given.1) refl

    module _ (one : Prepared) (is : prepared ≡ Some one) where
      has_prepared : HasPrepared (state_of options journal) len capacity stored one
      has_prepared = let now : IsSound options journal len capacity stored (Some one) = subst (λ (o : Option Prepared). IsSound options journal len capacity stored o) is sound in now.inside

      pub can_be_done : CanBeDone stored one
      can_be_done = record { state = state_of options journal; keeps = keeps_now; request = has_prepared.request; is_prepared = has_prepared.is_prepared }

      pub has_room : len < capacity
      has_room = has_prepared.room

      pub may_rise : stored.state.revision < 2 ^ 64 - 1
      may_rise = subst (λ (n : ℕ). n < 2 ^ 64 - 1) (sym has_prepared.is_prepared.like.revision) has_prepared.not_last

      is_it : has_prepared.request ≡ request
      is_it =
          sym (request_is (state_of options journal) keeps_now has_prepared.request stored one has_prepared.is_prepared)
          ∙ some_of (subst (λ (o : Option Prepared). option_map (λ r. request_of stored.state.identities r.change) o ≡ Some request) is (ap (λ (r : Repository). r.prepared) seen ∙ is_prepared))
        where
          some_of : {X : Type 0} {x y : X} → Some x ≡ Some y → x ≡ y
          some_of e = cc

      pub prepared_now : IsPrepared (state_of options journal) request stored one
      prepared_now = subst (λ (r : Request). IsPrepared (state_of options journal) r stored one) is_it has_prepared.is_prepared

      pub accepted : (journal' : List Request) (stored' : Stored) (len' capacity' : ℕ) (left : Option Prepared) → journal' ≡ journal ++ request ∷ [] → left ≡ None
          → ((s : State) (r : Request) → Keeps s → IsPrepared s r stored one → StandsFor (after s r) stored')
          → IsSound options journal' len' capacity' stored' left
      accepted journal' stored' len' capacity' left longer none done =
          subst (λ (o : Option Prepared). IsSound options journal' len' capacity' stored' o) (sym none)
          (subst (λ (requests : List Request). IsSound options requests len' capacity' stored' None) (sym longer)
          (record {
            without_faults = (commits-more options journal request).1 (sound.without_faults, prepared_now.may);
            inside = subst (λ (s : State). StandsFor s stored') (sym (after_append (start options) journal (request ∷ []))) (done (state_of options journal) request keeps_now prepared_now);
          }))

      pub accepted_seen : (journal' : List Request) (stored' : Stored) (left : Option Prepared) → journal' ≡ journal ++ request ∷ [] → left ≡ None
          → seen_as options journal' stored' left ≡ record self { journal = self.journal ++ request ∷ []; prepared = None }
      accepted_seen journal' stored' left longer none =
          let with : Repository → Repository = λ r. record r { journal = r.journal ++ request ∷ []; prepared = None } in
          (λ i. seen_as options (longer i) stored' (none i)) ∙ ap with seen

      pub withdrawn : (stored' : Stored) (left : Option Prepared) → left ≡ None → TakesBack stored one stored' → IsSound options journal len capacity stored' left
      withdrawn stored' left none back =
          subst (λ (o : Option Prepared). IsSound options journal len capacity stored' o) (sym none)
          (record { without_faults = sound.without_faults; inside = back (state_of options journal) request keeps_now prepared_now })

      pub may_commit : MayCommit (state_in self) request
      may_commit = subst (λ (s : State). MayCommit s request) present prepared_now.may

-- ---- what a commit is, from what it was prepared for
pub commits : (old new : Repository) (request : Request) (done : Committed) → MayCommit (state_in old) request → done ≡ committed_of (after (state_in old) request) request
    → new ≡ record old { journal = old.journal ++ request ∷ []; prepared = None } → Commits (state_in old) (state_in new) request done
commits old new request done may answer is =
    let state : state_in new ≡ after (state_in old) request = ap state_in is ∙ after_append (start old.options) old.journal (request ∷ []) in
    record {
      no_fault = may.no_fault;
      state = state;
      answer = answer ∙ ap (λ (s : State). committed_of s request) (sym state);
    }
