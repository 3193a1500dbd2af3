-- The numbers of selectors tell since which revision their peers are listed, also after one request more.
use Rattle.std.proofs.Common.{zero, suc, ◌≡◌, ℕ, ◌<◌, ◌≤◌, true, List, [], ◌∷◌, ◌++◌, length, slice_get, Some, None, refl, sym, ap, ◌∙◌, ◌⊎◌, inl, inr, subst, arith}
use Rattle.std.specs.Prelude.{◌↔◌}
use Rattle.std.specs.List.{AllByRecursion}
use Rattle.std.proofs.lemmas.Option.{same_Some, slice_get_within}
use Rattle.pol_data.proofs.Members.{every-in}
use Rattle.pol_model_laws.proofs.Membership.{find-In}
use Rattle.pol_rule.specs.declared.policy.Peer.{Peer}
use Rattle.pol_model.specs.declared.options.Options.{Options}
use Rattle.pol_model.specs.declared.request.Request.{Request}
use Rattle.pol_model.specs.After.{after, state_of}
use Rattle.pol_model.specs.State.{State}
use Rattle.pol_peers.proofs.Found.{found_of, is_of}
use Rattle.pol_selcache.specs.Cache.{Cache}
use Rattle.pol_selcache.specs.Live.{number_of}
use Rattle.pol_store.specs.Store.{StandsFor, Stored, peers_of}
use Rattle.pol_set_moves.specs.Changes.{IsListedSince, is_listed}
use Rattle.pol_set_moves.specs.Chained.{IsChained, LeadsOn}
use Rattle.pol_set_moves.proofs.Cuts.{at_present, listed_earlier, listed_further, listed_last, longer}
use Rattle.pol_set_moves.proofs.Listing.{listed_live, live_listed, numbers_stay}

-- ---- one next number more
got : (xs : List ℕ) (x i y : ℕ) → slice_get (xs ++ x ∷ []) i ≡ Some y → (slice_get xs i ≡ Some y) ⊎ ((i ≡ length xs) × (x ≡ y))
got [] x zero y at = inr (refl, same_Some x y at)
got [] x (suc i) y at = absurd (let wrong : None ≡ Some y = at in cc)
got (z ∷ xs) x zero y at = inl at
got (z ∷ xs) x (suc i) y at =
    elim (got xs x i y at) [
      | inl before ↦ inl before
      | inr last ↦ inr (ap suc last.0, last.1)
    ]

reached_at : (m : ℕ) (xs : List ℕ) → AllByRecursion (λ x. x ≤ m) xs → (i y : ℕ) → slice_get xs i ≡ Some y → y ≤ m
reached_at m [] all i y at = absurd (let wrong : ⊥ = cc in wrong)
reached_at m (x ∷ xs) all zero y at = subst (λ z. z ≤ m) (same_Some x y at) all.0
reached_at m (x ∷ xs) all (suc i) y at = reached_at m xs all.1 i y at

-- ---- a peer that is listed since some revision is live under one number
pub live_since : (options : Options) (journal : List Request) (stored : Stored) → StandsFor (state_of options journal) stored → (since : ℕ) (p : Peer) → since ≤ length journal
    → IsListedSince options journal since p → (number : ℕ) × (number_of p stored.cache.live ≡ Some number)
live_since options journal stored stands since p within listed =
    listed_live (peers_of (state_of options journal).policies) stored.cache.live stands.refs p
    (ap (λ (u : State). is_listed u p) (sym (at_present options journal)) ∙ listed (length journal) within (omega arith))

module _ (options : Options) (journal : List Request) (request : Request) (old new : Stored)
    (stands : StandsFor (state_of options journal) old) (lead : LeadsOn (state_of options journal) request old.cache new) where
  abbrev now : State
  now = after (state_of options journal) request

  abbrev mid : Cache
  mid = lead.mid

  in_mid : (p : Peer) (number : ℕ) → number_of p new.cache.live ≡ Some number → number_of p mid.live ≡ Some number
  in_mid p number is = sym (numbers_stay lead.plan.changes p mid.live) ∙ lead.loses.kept p number is

  -- who lived before and lives now has one number
  pub one_number : (p : Peer) (was number : ℕ) → number_of p old.cache.live ≡ Some was → number_of p new.cache.live ≡ Some number → was ≡ number
  one_number p was number before is = same_Some was number (sym (lead.gains.kept p was before) ∙ in_mid p number is)

  pub next_rises : old.cache.next ≤ new.cache.next
  next_rises = let rises = lead.gains.fresh.rises in let same : new.cache.next ≡ mid.next = lead.loses.next in omega (arith, rises, same)

  below_next : (p : Peer) (number : ℕ) → number_of p new.cache.live ≡ Some number → number < new.cache.next
  below_next p number is =
      let one = found_of p new.cache.live number is in
      subst (λ n. n < new.cache.next) one.2 (every-in (λ s. s.number < new.cache.next) new.cache.live lead.new_sound.below one.0 (find-In (is_of p) one.0 new.cache.live one.1).0)

  is_listed_now : (p : Peer) (number : ℕ) → number_of p new.cache.live ≡ Some number → is_listed now p ≡ true
  is_listed_now p number is = live_listed (peers_of now.policies) new.cache.live lead.stands.refs lead.new_sound.live p number is

  earlier : (since next : ℕ) → next ≤ old.cache.next → since ≤ length journal
      → ((p : Peer) (number : ℕ) → number_of p old.cache.live ≡ Some number → (number < next) ↔ IsListedSince options journal since p)
      → (p : Peer) (number : ℕ) → number_of p new.cache.live ≡ Some number → (number < next) ↔ IsListedSince options (longer options journal request) since p
  earlier since next reached within was p number is = (
    (λ below.
        let before = lead.gains.fresh.lived p number (in_mid p number is) (omega (arith, below, reached)) in
        listed_further options journal request since p ((was p number before).0 below) (is_listed_now p number is)),
    (λ listed.
        let listed_before = listed_earlier options journal request since p listed in
        let one = live_since options journal old stands since p within listed_before in
        subst (λ n. n < next) (one_number p one.0 number one.1 is) ((was p one.0 one.1).1 listed_before)),
  )

  pub listed_on : (nexts : List ℕ) → IsChained options journal nexts old.cache → (since next : ℕ) → slice_get (nexts ++ new.cache.next ∷ []) since ≡ Some next
      → (p : Peer) (number : ℕ) → number_of p new.cache.live ≡ Some number → (number < next) ↔ IsListedSince options (longer options journal request) since p
  listed_on nexts chained since next at p number is =
      elim (got nexts new.cache.next since next at) [
        | inl before ↦
            let within = slice_get_within nexts since next before in
            earlier since next (reached_at old.cache.next nexts chained.reached since next before) (omega (arith, within, chained.counted)) (chained.listed since next before) p number is
        | inr last ↦
            subst (λ m. (number < m) ↔ IsListedSince options (longer options journal request) since p) last.1
            ((λ below. listed_last options journal request since p (last.0 ∙ chained.counted) (is_listed_now p number is)), (λ listed. below_next p number is))
      ]
