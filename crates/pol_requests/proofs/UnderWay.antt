-- What was prepared is begun, or taken back.
use Rattle.std.proofs.Common.{◌≡◌, ℕ, ◌+◌, ◌≤◌, ◌&&◌, not, true, false, if◌then◌else◌, List, [], ◌∷◌, find, Some, refl, sym, ap, subst, ◌∙◌, arith}
use Rattle.std.specs.Option.{option_map_or}
use Rattle.pol_rule.specs.contracts.policy.PeerPartialEq.TheImpl as peers
use Rattle.pol_rule.specs.declared.policy.Peer.{Peer}
use Rattle.pol_labels.specs.declared.label.Label.{Label}
use Rattle.pol_labels.specs.Order.{IsLabelSet}
use Rattle.pol_model.specs.declared.request.Request.{Request}
use Rattle.pol_model.specs.declared.row.IdentityRow.{IdentityRow}
use Rattle.pol_model.specs.State.{State}
use Rattle.pol_model.specs.After.{after}
use Rattle.pol_model.specs.Fault.{has_reserved, is_exhausted, is_init}
use Rattle.pol_model.specs.Identities.{is_local, labels_held, number_for, released}
use Rattle.pol_model_laws.specs.Holding.{has_row}
use Rattle.pol_model_laws.specs.Keeps.{Keeps}
use Rattle.pol_model_laws.proofs.HoldingLaws.{held_has}
use Rattle.pol_model_laws.proofs.RowLaws.{labels_undone}
use Rattle.pol_set_changes.specs.Log.{newest}
use Rattle.pol_selcache.specs.Cache.{Cache}
use Rattle.pol_selcache.specs.Live.{AreExact, Live}
use Rattle.pol_selcache.specs.Plan.{Planned, after_changes, changed}
use Rattle.pol_tables.specs.Tables.{number_named}
use Rattle.pol_allocator.proofs.Coming.{number_not_local}
use Rattle.pol_peers.specs.References.{RefsOf, references_of}
use Rattle.pol_requests.specs.declared.prepared.Prepared.{Prepared}
use Rattle.pol_store.specs.Parts.{begun, numbers_of, with_numbers}
use Rattle.pol_store.specs.Store.{IsLike, StandsFor, Stored, peers_of, peers_with}
use Rattle.pol_requests.specs.Prepared.{HasRoom, IsPrepared, IsUnderWay}

-- changes of sets leave the references as they were
references_kept : (changes : List Planned) (p : Peer) (live : List Live) → references_of p (changed changes live) ≡ references_of p live
references_kept changes p [] = refl
references_kept changes p (s ∷ live) =
    elim (peers.ghosts.eq p s.peer) as (λ b. option_map_or (λ (x : Live). x.references) (if b then Some (after_changes changes s) else find (λ (x : Live). peers.ghosts.eq p x.peer) (changed changes live)) 0
    ≡ option_map_or (λ (x : Live). x.references) (if b then Some s else find (λ (x : Live). peers.ghosts.eq p x.peer) live) 0) [
      | true ↦ refl
      | false ↦ references_kept changes p live
    ]

-- a prepared request is under way once its plan is carried out
pub under_way : (s : State) (request : Request) (old : Stored) (prepared : Prepared) (new : Stored) → IsPrepared s request old prepared
    → new ≡ begun prepared.plan old → newest new.cache.log ≤ prepared.plan.revision → IsUnderWay s request new
under_way s request old prepared new ready is before =
    let like = ready.like in
    let live : new.cache.live ≡ changed prepared.plan.changes old.cache.live = ap (λ (stored : Stored). stored.cache.live) is in
    let at = ready.plan.revision_is in
    record {
      may = ready.may;
      short = ready.short;
      like = record {
        revision = ap (λ (stored : Stored). stored.state.revision) is ∙ ap (λ n. n + 1) like.revision;
        mode = ap (λ (stored : Stored). stored.state.mode) is ∙ like.mode;
        identities = ap (λ (stored : Stored). stored.state.identities) is ∙ like.identities;
        named = λ other. ap (λ (stored : Stored). number_named other stored.state.named) is ∙ like.named other;
        policies = ap (λ (stored : Stored). stored.state.policies) is ∙ like.policies;
        endpoints = ap (λ (stored : Stored). stored.state.endpoints) is ∙ like.endpoints;
      };
      refs = λ p. ap (references_of p) live ∙ references_kept prepared.plan.changes p old.cache.live ∙ ready.refs p;
      exact = subst (λ (l : List Live). AreExact (after s request).identities l) (sym live) ready.plan.exact;
      newest = omega (arith, at, before);
      room = subst (λ (stored : Stored). HasRoom request stored.rooms) (sym is) ready.room;
    }

-- what is prepared has changed nothing where nothing was taken
module _ (s : State) (request : Request) (old : Stored) (prepared : Prepared) (ready : IsPrepared s request old prepared) where
  not_later : newest old.cache.log ≤ s.revision
  not_later = let at = ready.plan.revision_is in let newer = ready.plan.fits.newer in omega (arith, at, newer)

  pub back_with : (new : Stored) → peers_with s request ≡ peers_of s.policies → new.cache ≡ old.cache → IsLike s new.state → StandsFor s new
  back_with new peers same like = record {
    like = like;
    refs = subst (λ (ps : List Peer). RefsOf ps new.cache.live) peers (subst (λ (cache : Cache). RefsOf (peers_with s request) cache.live) (sym same) ready.refs);
    exact = subst (λ (cache : Cache). AreExact s.identities cache.live) (sym same) ready.exact;
    newest = subst (λ (cache : Cache). newest cache.log ≤ s.revision) (sym same) not_later;
  }

-- ---- a label set is given back
module _ (s : State) (keeps : Keeps s) (labels : List Label) (set : IsLabelSet labels) (allowed : (has_reserved labels && not (is_init labels)) ≡ false) (room : is_exhausted labels s.identities ≡ false) where
  pub given_back : released (number_for labels s.identities) (labels_held labels s.identities) ≡ s.identities
  given_back = labels_undone labels s.identities keeps.identities set allowed room

  pub may_give_back : (number : ℕ) (rows : List IdentityRow) → number ≡ number_for labels s.identities → rows ≡ labels_held labels s.identities → (has_row number rows ≡ true) × (is_local number ≡ false)
  may_give_back number rows same at =
      ((λ i. has_row (same i) (at i)) ∙ held_has _ _ s.identities, ap is_local same ∙ number_not_local labels s.identities room)

  pub like_before : (number : ℕ) (old new : Stored) → IsLike (record s { identities = labels_held labels s.identities }) old.state → number ≡ number_for labels s.identities
      → new ≡ with_numbers (record (numbers_of old) { rows = released number old.state.identities }) old → IsLike s new.state
  like_before number old new like same is = record {
    revision = ap (λ (stored : Stored). stored.state.revision) is ∙ like.revision;
    mode = ap (λ (stored : Stored). stored.state.mode) is ∙ like.mode;
    identities = ap (λ (stored : Stored). stored.state.identities) is ∙ (λ i. released (same i) (like.identities i)) ∙ given_back;
    named = λ other. ap (λ (stored : Stored). number_named other stored.state.named) is ∙ like.named other;
    policies = ap (λ (stored : Stored). stored.state.policies) is ∙ like.policies;
    endpoints = ap (λ (stored : Stored). stored.state.endpoints) is ∙ like.endpoints;
  }
