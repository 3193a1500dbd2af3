-- The states of a journal with one request more.
use Rattle.std.proofs.Common.{◌≡◌, ℕ, ◌+◌, ◌≤◌, true, List, [], ◌∷◌, ◌++◌, length, sym, ap, ◌∙◌, inl, inr, arith}
use Rattle.std.proofs.lemmas.Bool.{cases_lt}
use Rattle.std.proofs.lemmas.List.{length-append, take-append-le, take_all}
use Rattle.pol_rule.specs.declared.policy.Peer.{Peer}
use Rattle.pol_model.specs.declared.options.Options.{Options}
use Rattle.pol_model.specs.declared.request.Request.{Request}
use Rattle.pol_model.specs.After.{after, state_of}
use Rattle.pol_model.specs.State.{State}
use Rattle.pol_model.proofs.Histories.{state_of-push}
use Rattle.pol_set_moves.specs.Changes.{IsListedSince, is_listed, state_at}

pub at_present : (options : Options) (journal : List Request) → state_at options journal (length journal) ≡ state_of options journal
at_present options journal = ap (state_of options) (take_all (length journal) journal (omega arith))

module _ (options : Options) (journal : List Request) (request : Request) where
  abbrev pub longer : List Request
  longer = journal ++ request ∷ []

  pub one_longer : length longer ≡ length journal + 1
  one_longer = omega (arith, length-append journal (request ∷ []))

  pub at_earlier : (revision : ℕ) → revision ≤ length journal → state_at options longer revision ≡ state_at options journal revision
  at_earlier revision within = ap (state_of options) (take-append-le revision journal (request ∷ []) within)

  pub at_last : (revision : ℕ) → revision ≡ length journal + 1 → state_at options longer revision ≡ after (state_of options journal) request
  at_last revision is = ap (state_of options) (take_all revision longer (omega (arith, is, one_longer))) ∙ state_of-push options journal request

  -- ---- listed since a revision
  module _ (since : ℕ) (p : Peer) where
    pub listed_earlier : IsListedSince options longer since p → IsListedSince options journal since p
    listed_earlier listed revision from within =
        ap (λ (s : State). is_listed s p) (sym (at_earlier revision within)) ∙ listed revision from (omega (arith, within, one_longer))

    pub listed_now : since ≤ length journal + 1 → IsListedSince options longer since p → is_listed (after (state_of options journal) request) p ≡ true
    listed_now before listed =
        ap (λ (s : State). is_listed s p) (sym (at_last (length journal + 1) (omega arith))) ∙ listed (length journal + 1) before (omega (arith, one_longer))

    pub listed_further : IsListedSince options journal since p → is_listed (after (state_of options journal) request) p ≡ true → IsListedSince options longer since p
    listed_further listed now revision from within =
        elim (cases_lt revision (length journal + 1)) [
          | inl before ↦ ap (λ (s : State). is_listed s p) (at_earlier revision (omega (arith, before))) ∙ listed revision from (omega (arith, before))
          | inr last ↦ ap (λ (s : State). is_listed s p) (at_last revision (omega (arith, last, within, one_longer))) ∙ now
        ]

    -- since the present state
    pub listed_last : since ≡ length journal + 1 → is_listed (after (state_of options journal) request) p ≡ true → IsListedSince options longer since p
    listed_last is now revision from within =
        ap (λ (s : State). is_listed s p) (at_last revision (omega (arith, is, from, within, one_longer))) ∙ now
