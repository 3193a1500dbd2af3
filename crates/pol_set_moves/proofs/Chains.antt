-- What tells the changes of sets since a revision goes on with each request.
use Rattle.std.proofs.Common.{zero, suc, ◌≡◌, ℕ, ◌+◌, ◌≤◌, true, List, [], ◌∷◌, ◌++◌, length, map, replicate, Some, None, refl, sym, ap, ◌∙◌, inl, inr, subst, arith}
use Rattle.std.specs.List.{list_any}
use Rattle.std.proofs.lemmas.List.{length-append}
use Rattle.pol_data.proofs.Every.{every-append, every-weaker}
use Rattle.pol_model_laws.proofs.KeepsAll.{state_keeps}
use Rattle.pol_model_laws.proofs.Membership.{In-append, In-list_any, list_any-In}
use Rattle.pol_model_laws.proofs.StateLaws.{commits-more}
use Rattle.pol_model_laws.specs.WithoutFaults.{WithoutFaults}
use Rattle.pol_rule.specs.contracts.policy.PeerPartialEq.TheImpl as peers
use Rattle.pol_rule.specs.declared.policy.Peer.{Peer}
use Rattle.pol_sets.specs.declared.sets.Move.{Move}
use Rattle.pol_model.specs.declared.options.Options.{Options}
use Rattle.pol_model.specs.declared.request.Request.{Request}
use Rattle.pol_model.specs.After.{after, state_of}
use Rattle.pol_model.specs.State.{State}
use Rattle.pol_model.proofs.AscendingStates.{RowsAscend}
use Rattle.pol_model.proofs.Histories.{state_of-push, state_of-revision}
use Rattle.pol_set_changes.specs.declared.change.SetChange.{SetChange}
use Rattle.pol_set_changes.specs.Log.{Log, since as since_of}
use Rattle.pol_set_changes.specs.Recorded.{KeepsLast}
use Rattle.pol_set_changes.specs.Sets.{IsMove}
use Rattle.pol_set_changes.proofs.LogLemmas.{logs_keep_last}
use Rattle.pol_peers.specs.Numbering.{GainsSelectors, LosesSelectors}
use Rattle.pol_peers.proofs.Numbering.{fresh_less}
use Rattle.pol_peers.proofs.Found.{is_of}
use Rattle.pol_selcache.specs.Cache.{Cache, all_recorded}
use Rattle.pol_selcache.specs.Live.{AreLive, number_of}
use Rattle.pol_selcache.proofs.Retold.{tells_difference}
use Rattle.pol_allocator.specs.Held.{nothing_held}
use Rattle.pol_store.specs.Store.{StandsFor, Stored, peers_of, peers_with}
use Rattle.pol_set_moves.specs.Changes.{IsListedSince, changes_between, horizon_of, revision_before, revisions_until, set_in, state_at}
use Rattle.pol_set_moves.specs.Chained.{IsChained, LeadsOn, selector_in}
use Rattle.pol_set_moves.proofs.Counted.{plan_counted}
use Rattle.pol_set_moves.proofs.Cuts.{at_earlier, at_last, at_present, longer, one_longer}
use Rattle.pol_set_moves.proofs.Listing.{listed_in_both, listed_live, live_listed, live_where, numbers_stay}
use Rattle.pol_set_moves.proofs.Numbers.{listed_on, next_rises}
use Rattle.pol_set_moves.proofs.Recorded.{all_with, horizon_by_revisions, keeps_all, revisions_with}
use Rattle.pol_set_moves.proofs.Retold.{told_as, told_too}

-- the log keeps the same of all changes where its changes are the same
kept_as : (log other : Log) (all : List SetChange) → other.kept ≡ log.kept → other.horizon ≡ log.horizon → KeepsLast log all → KeepsLast other all
kept_as log other all kept horizon keeps = record { kept = kept ∙ keeps.kept; horizon = horizon ∙ keeps.horizon }

-- ---- at the start
starts_with : (options : Options) → IsChained options [] (0 ∷ []) nothing_held.cache
starts_with options = record {
  counted = refl;
  reached = (omega arith, tt);
  listed = λ since next at p number is. absurd (let wrong : None ≡ Some number = is in cc);
  told = λ since within low p number is listed. absurd (let wrong : None ≡ Some number = is in cc);
  all = [];
  kept = logs_keep_last.first;
  revisions = refl;
}

pub chain_starts : (options : Options) (cache : Cache) → cache ≡ nothing_held.cache → IsChained options [] (0 ∷ []) cache
chain_starts options cache is = subst (IsChained options [] (0 ∷ [])) (sym is) (starts_with options)

-- ---- one request more
module _ (options : Options) (journal : List Request) (request : Request) (old new : Stored) (nexts : List ℕ)
    (without_faults : WithoutFaults options journal) (stands : StandsFor (state_of options journal) old)
    (lead : LeadsOn (state_of options journal) request old.cache new) (chained : IsChained options journal nexts old.cache) where
  abbrev then : State
  then = state_of options journal

  abbrev now : State
  now = after then request

  abbrev both : List Peer
  both = peers_of then.policies ++ peers_of now.policies

  all_without_faults : WithoutFaults options (longer options journal request)
  all_without_faults = (commits-more options journal request).1 (without_faults, lead.may)

  ascend_now : RowsAscend now.identities
  ascend_now = subst (λ (u : State). RowsAscend u.identities) (state_of-push options journal request) (state_keeps options (longer options journal request) all_without_faults).identities.numbers

  abbrev mid : Cache
  mid = lead.mid

  -- a selector is live for each peer that is listed before or after the request, and for no other
  lists : (p : Peer) (number : ℕ) → number_of p mid.live ≡ Some number → list_any (peers.ghosts.eq p) both ≡ true
  lists p number is = listed_in_both then request p (live_listed (peers_with then request) mid.live lead.refs lead.sound.live p number is)

  lives : (p : Peer) → list_any (peers.ghosts.eq p) both ≡ true → (number : ℕ) × (number_of p mid.live ≡ Some number)
  lives p there =
      let one = In-list_any (peers.ghosts.eq p) both there in
      elim (In-append one.0 (peers_of then.policies) (peers_of now.policies) one.1) [
        | inl before ↦
            let was = listed_live (peers_of then.policies) old.cache.live stands.refs p (list_any-In (peers.ghosts.eq p) one.0 (peers_of then.policies) before one.2) in
            (was.0, lead.gains.kept p was.0 was.1)
        | inr later ↦
            let is = listed_live (peers_of now.policies) new.cache.live lead.stands.refs p (list_any-In (peers.ghosts.eq p) one.0 (peers_of now.policies) later one.2) in
            (is.0, sym (numbers_stay lead.plan.changes p mid.live) ∙ lead.loses.kept p is.0 is.1)
      ]

  found_where_listed : (p : Peer) → list_any (is_of p) mid.live ≡ list_any (peers.ghosts.eq p) both
  found_where_listed p = live_where p mid.live both (lists p) (lives p)

  as_many : length lead.plan.changes ≡ changes_between then now
  as_many =
      plan_counted then.identities now.identities (state_keeps options journal without_faults).identities.numbers mid lead.sound.live lead.plan lead.prepares.fits
      lead.exact lead.prepares.exact both found_where_listed

  -- the changes of earlier requests are the same
  earlier_changes : (revision : ℕ) → revision ≤ length journal → revisions_until options (longer options journal request) revision ≡ revisions_until options journal revision
  earlier_changes zero within = refl
  earlier_changes (suc revision) within =
      let early = at_earlier options journal request revision (omega (arith, within)) in
      let late = at_earlier options journal request (suc revision) within in
      let rest = earlier_changes revision (omega (arith, within)) in
      λ i. replicate (changes_between (early i) (late i)) (suc revision) ++ rest i

  all_revisions : map (λ (c : SetChange). c.revision) (all_with lead.plan.revision lead.plan.changes chained.all)
      ≡ revisions_until options (longer options journal request) (length (longer options journal request))
  all_revisions =
      let one_more : length journal + 1 ≡ suc (length journal) = omega arith in
      let revision_is : lead.plan.revision ≡ suc (length journal) = lead.prepares.revision_is ∙ ap (λ n. n + 1) (state_of-revision options journal) ∙ one_more in
      let long : length (longer options journal request) ≡ suc (length journal) = one_longer options journal request ∙ one_more in
      let before : state_at options (longer options journal request) (length journal) ≡ then = at_earlier options journal request (length journal) (omega arith) ∙ at_present options journal in
      let after_it : state_at options (longer options journal request) (suc (length journal)) ≡ now = at_last options journal request (suc (length journal)) (sym one_more) in
      let rest = earlier_changes (length journal) (omega arith) in
      revisions_with lead.plan.revision lead.plan.changes chained.all
      ∙ (λ i. replicate (as_many i) (revision_is i) ++ chained.revisions i)
      ∙ (λ i. replicate (changes_between (sym before i) (sym after_it i)) (suc (length journal)) ++ sym rest i)
      ∙ ap (revisions_until options (longer options journal request)) (sym long)

  pub chain_goes_on : IsChained options (longer options journal request) (nexts ++ new.cache.next ∷ []) new.cache
  chain_goes_on = record {
    counted = omega (arith, length-append nexts (new.cache.next ∷ []), one_longer options journal request, chained.counted);
    reached = every-append (λ next. next ≤ new.cache.next) nexts (new.cache.next ∷ [])
        (every-weaker (λ next. next ≤ old.cache.next) (λ next. next ≤ new.cache.next) (λ next below. omega (arith, below, next_rises options journal request old new stands lead)) nexts chained.reached)
        (omega arith, tt);
    listed = listed_on options journal request old new stands lead nexts chained;
    told = told_too options journal request old new stands lead ascend_now nexts chained;
    all = all_with lead.plan.revision lead.plan.changes chained.all;
    kept = kept_as (all_recorded lead.plan mid.log) new.cache.log (all_with lead.plan.revision lead.plan.changes chained.all)
        (ap (λ (log : Log). log.kept) lead.loses.log) (ap (λ (log : Log). log.horizon) lead.loses.log)
        (keeps_all lead.plan mid.log chained.all
        (kept_as old.cache.log mid.log chained.all (ap (λ (log : Log). log.kept) lead.gains.log) (ap (λ (log : Log). log.horizon) lead.gains.log) chained.kept));
    revisions = all_revisions;
  }

-- ---- no request more
pub chain_stays : (options : Options) (journal : List Request) (old new : Stored) (nexts : List ℕ) → StandsFor (state_of options journal) old → StandsFor (state_of options journal) new
    → AreLive new.cache.live → GainsSelectors old.cache new.cache → IsChained options journal nexts old.cache → IsChained options journal nexts new.cache
chain_stays options journal old new nexts was stands are gains chained = record {
  counted = chained.counted;
  reached = every-weaker (λ next. next ≤ old.cache.next) (λ next. next ≤ new.cache.next) (λ next below. omega (arith, below, gains.fresh.rises)) nexts chained.reached;
  listed = λ since next at p number is. chained.listed since next at p number (lived p number is);
  told = λ since within low p number is listed.
      told_as since (set_in (state_at options journal since) p) (selector_in then p number) (selector_in then p number) old.cache.log new.cache.log refl refl
      (ap (λ (log : Log). log.kept) gains.log) (ap (λ (log : Log). log.horizon) gains.log)
      (chained.told since within (subst (λ n. n ≤ since) (ap (λ (log : Log). log.horizon) gains.log) low) p number (lived p number is) listed);
  all = chained.all;
  kept = kept_as old.cache.log new.cache.log chained.all (ap (λ (log : Log). log.kept) gains.log) (ap (λ (log : Log). log.horizon) gains.log) chained.kept;
  revisions = chained.revisions;
}
  where
    then : State
    then = state_of options journal

    lived : (p : Peer) (number : ℕ) → number_of p new.cache.live ≡ Some number → number_of p old.cache.live ≡ Some number
    lived p number is =
        let listed = live_listed (peers_of (state_of options journal).policies) new.cache.live stands.refs are p number is in
        let one = listed_live (peers_of (state_of options journal).policies) old.cache.live was.refs p listed in
        one.1 ∙ sym (gains.kept p one.0 one.1) ∙ is

-- selectors came for a request that is given up
pub gains_undone : (s : State) (old new : Stored) (mid : Cache) → StandsFor s old → StandsFor s new → AreLive old.cache.live → GainsSelectors old.cache mid → LosesSelectors mid new.cache → GainsSelectors old.cache new.cache
gains_undone s old new mid was stands are gains loses = record {
  kept = λ p number is.
      let listed = live_listed (peers_of s.policies) old.cache.live was.refs are p number is in
      let one = listed_live (peers_of s.policies) new.cache.live stands.refs p listed in
      one.1 ∙ sym (loses.kept p one.0 one.1) ∙ gains.kept p number is;
  fresh = fresh_less old.cache mid new.cache gains.fresh loses.next loses.kept;
  log = loses.log ∙ gains.log ∙ ap (λ (log : Log). record old.cache.log { spare = log.spare }) (sym loses.log);
}

-- ---- what is told
pub chain_horizon : (options : Options) (journal : List Request) (nexts : List ℕ) (cache : Cache) → IsChained options journal nexts cache → cache.log.horizon ≡ horizon_of options journal
chain_horizon options journal nexts cache chained =
    chained.kept.horizon ∙ horizon_by_revisions chained.all ∙ ap (revision_before 65536) chained.revisions

pub chain_moves : (options : Options) (journal : List Request) (nexts : List ℕ) (cache : Cache) → IsChained options journal nexts cache
    → (since : ℕ) → since ≤ length journal → cache.log.horizon ≤ since → (p : Peer) (number : ℕ) → number_of p cache.live ≡ Some number → IsListedSince options journal since p
    → (m : Move) × (since_of cache.log number since ≡ Some m) × IsMove (set_in (state_at options journal since) p) (set_in (state_of options journal) p) m
chain_moves options journal nexts cache chained since within low p number is listed =
    tells_difference since (set_in (state_at options journal since) p) (selector_in (state_of options journal) p number) cache.log (chained.told since within low p number is listed)
