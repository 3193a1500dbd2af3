-- What sets were stays told, also after one request more.
use Rattle.std.proofs.Common.{◌≡◌, ℕ, ◌+◌, ◌<◌, ◌≤◌, List, filter, length, Some, sym, ap, ◌∙◌, inl, inr, subst, arith}
use Rattle.std.proofs.lemmas.Bool.{cases_lt}
use Rattle.pol_data.proofs.Members.{Contains-from_In, every-in}
use Rattle.pol_model_laws.proofs.Membership.{map-In}
use Rattle.pol_rule.specs.declared.policy.Peer.{Peer}
use Rattle.pol_model.specs.declared.options.Options.{Options}
use Rattle.pol_model.specs.declared.request.Request.{Request}
use Rattle.pol_model.specs.After.{after, state_of}
use Rattle.pol_model.specs.Selects.{set_at}
use Rattle.pol_model.specs.State.{State}
use Rattle.pol_model.proofs.AscendingStates.{RowsAscend}
use Rattle.pol_model.proofs.Histories.{state_of-push, state_of-revision}
use Rattle.pol_set_changes.specs.Log.{Log, is_later_of}
use Rattle.pol_set_changes.specs.Net.{after_all}
use Rattle.pol_set_changes.specs.Sets.{AllFit}
use Rattle.pol_selcache.specs.Cache.{Cache, carried}
use Rattle.pol_selcache.specs.Live.{Live, number_of}
use Rattle.pol_selcache.specs.Plan.{Plan, after_changes, changed}
use Rattle.pol_selcache.specs.Told.{WasAt, changes_after}
use Rattle.pol_selcache.proofs.Retold.{told_now, told_on}
use Rattle.pol_selcache.proofs.RowSets.{set_sorted}
use Rattle.pol_store.specs.Store.{StandsFor, Stored}
use Rattle.pol_set_moves.specs.Changes.{IsListedSince, set_in, state_at}
use Rattle.pol_set_moves.specs.Chained.{IsChained, LeadsOn, selector_in}
use Rattle.pol_set_moves.proofs.Cuts.{at_earlier, at_last, listed_earlier, longer, one_longer}
use Rattle.pol_set_moves.proofs.Listing.{selector_of_peer}
use Rattle.pol_set_moves.proofs.Numbers.{live_since, one_number}
use Rattle.pol_set_moves.proofs.Recorded.{horizon_rises}

-- what is told depends on the number, the set and the changes alone
pub told_as : (since : ℕ) (before : List ℕ) (s t : Live) (log other : Log) → t.number ≡ s.number → t.set ≡ s.set → other.kept ≡ log.kept → other.horizon ≡ log.horizon
    → WasAt since before s log → WasAt since before t other
told_as since before s t log other number set kept horizon was =
    let changes : changes_after since t.number other ≡ changes_after since s.number log = λ i. filter (is_later_of (number i) since) (kept i) in
    record {
      kept = subst (λ (h : ℕ). h ≤ since) (sym horizon) was.kept;
      ascends = was.ascends;
      fit = subst (AllFit before) (sym changes) was.fit;
      leads = ap (after_all before) changes ∙ was.leads ∙ sym set;
    }

module _ (options : Options) (journal : List Request) (request : Request) (old new : Stored)
    (stands : StandsFor (state_of options journal) old) (lead : LeadsOn (state_of options journal) request old.cache new)
    (ascend : RowsAscend (after (state_of options journal) request).identities) where
  abbrev then : State
  then = state_of options journal

  abbrev now : State
  now = after then request

  abbrev mid : Cache
  mid = lead.mid

  abbrev plan : Plan
  plan = lead.plan

  revision_is : plan.revision ≡ length journal + 1
  revision_is = lead.prepares.revision_is ∙ ap (λ n. n + 1) (state_of-revision options journal)

  -- a set that is told before the request is told after it
  module _ (since : ℕ) (before : List ℕ) (p : Peer) (number : ℕ) (within : since ≤ length journal) (low : new.cache.log.horizon ≤ since)
      (is : number_of p old.cache.live ≡ Some number) where
    low_carried : (carried plan mid).log.horizon ≤ since
    low_carried = subst (λ (log : Log). log.horizon ≤ since) lead.loses.log low

    pub low_before : old.cache.log.horizon ≤ since
    low_before =
        let newer = lead.prepares.fits.newer in
        let rises = horizon_rises plan mid.log lead.sound.log (omega (arith, newer)) in
        let same : mid.log.horizon ≡ old.cache.log.horizon = ap (λ (log : Log). log.horizon) lead.gains.log in
        omega (arith, rises, same, low_carried)

    pub told_after : WasAt since before (selector_in then p number) old.cache.log → WasAt since before (selector_in now p number) new.cache.log
    told_after was =
        let one = selector_of_peer then.identities mid.live lead.exact p number (lead.gains.kept p number is) in
        let s : Live = one.0 in
        let s_number : s.number ≡ number = one.3 in
        let s_set : s.set ≡ set_in then p = one.4 in
        let at_mid : WasAt since before s mid.log = told_as since before (selector_in then p number) s old.cache.log mid.log s_number s_set
        (ap (λ (log : Log). log.kept) lead.gains.log) (ap (λ (log : Log). log.horizon) lead.gains.log) was in
        let newer : since < plan.revision = omega (arith, within, revision_is) in
        let on : WasAt since before (after_changes plan.changes s) (carried plan mid).log =
        told_on since before s plan mid lead.sound lead.sound.log lead.prepares.fits (Contains-from_In mid.live s one.1) newer low_carried at_mid in
        let set_now : (after_changes plan.changes s).set ≡ set_in now p =
        every-in (λ x. x.set ≡ set_at now.identities x.peer) (changed plan.changes mid.live) lead.prepares.exact (after_changes plan.changes s) (map-In (after_changes plan.changes) s mid.live one.1)
        ∙ ap (set_at now.identities) one.2 in
        told_as since before (after_changes plan.changes s) (selector_in now p number) (carried plan mid).log new.cache.log (sym s_number) (sym set_now)
        (ap (λ (log : Log). log.kept) lead.loses.log) (ap (λ (log : Log). log.horizon) lead.loses.log) on

  told_last : (since : ℕ) (p : Peer) (number : ℕ) → since ≡ length journal + 1 → WasAt since (set_in now p) (selector_in now p number) new.cache.log
  told_last since p number last =
      let low = lead.stands.newest in
      let at = state_of-revision options journal in
      told_now since (selector_in now p number) new.cache.log lead.new_sound.log (omega (arith, low, at, last)) (set_sorted p now.identities ascend)

  abbrev all : List Request
  all = longer options journal request

  pub told_too : (nexts : List ℕ) → IsChained options journal nexts old.cache
      → (since : ℕ) → since ≤ length all → new.cache.log.horizon ≤ since → (p : Peer) (number : ℕ) → number_of p new.cache.live ≡ Some number → IsListedSince options all since p
      → WasAt since (set_in (state_at options all since) p) (selector_in (state_of options all) p number) new.cache.log
  told_too nexts chained since within low p number is listed =
      subst (λ (u : State). WasAt since (set_in (state_at options all since) p) (selector_in u p number) new.cache.log) (sym (state_of-push options journal request))
      (elim (cases_lt since (length journal + 1)) [
        | inl before ↦
            let early : since ≤ length journal = omega (arith, before) in
            let listed_before = listed_earlier options journal request since p listed in
            let one = live_since options journal old stands since p early listed_before in
            let was = chained.told since early (low_before since (set_in (state_at options journal since) p) p one.0 early low one.1) p one.0 one.1 listed_before in
            let told = told_after since (set_in (state_at options journal since) p) p one.0 early low one.1 was in
            subst (λ (u : State). WasAt since (set_in u p) (selector_in now p number) new.cache.log) (sym (at_earlier options journal request since early))
            (subst (λ n. WasAt since (set_in (state_at options journal since) p) (selector_in now p n) new.cache.log) (one_number options journal request old new stands lead p one.0 number one.1 is) told)
        | inr last ↦
            let end : since ≡ length journal + 1 = omega (arith, last, within, one_longer options journal request) in
            subst (λ (u : State). WasAt since (set_in u p) (selector_in now p number) new.cache.log) (sym (at_last options journal request since end)) (told_last since p number end)
      ])
