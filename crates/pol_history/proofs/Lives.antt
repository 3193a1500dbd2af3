-- An endpoint that is live at a revision was live at each one before, since it was added.
use Rattle.std.proofs.Common.{◌≡◌, ℕ, ◌≤◌, List, Some, sym, subst, arith}
use Rattle.pol_model.specs.State.{State}
use Rattle.pol_model.specs.declared.options.Options.{Options}
use Rattle.pol_model.specs.declared.row.Endpoint.{Endpoint}
use Rattle.pol_model_laws.proofs.Lives.{found_back}
use Rattle.pol_history.specs.declared.event.EndpointId.{EndpointId}
use Rattle.pol_history.specs.declared.event.HistoryEvent.{HistoryEvent}
use Rattle.pol_history.specs.Commits.{commits_in, live_endpoint, revision_of, state_after, state_now}
use Rattle.pol_history.proofs.Cuts.{state-now}
use Rattle.pol_history.proofs.Same.{live-parts, live-whole}

module _ (options : Options) (history : List HistoryEvent) (endpoint : EndpointId) (row : Endpoint) where
  -- its row was the same at each revision since it was added
  pub lives-back : (r k : ℕ) → r ≤ k → endpoint.added ≤ r → live_endpoint endpoint (state_after options history k) ≡ Some row
      → live_endpoint endpoint (state_after options history r) ≡ Some row
  lives-back r k fewer old live =
      let both = live-parts endpoint (state_after options history k) row live in
      live-whole endpoint (state_after options history r) row
      (found_back options (commits_in history) r k endpoint.name row fewer (omega (arith, both.1)) both.0) both.1

  pub lives-then : (r : ℕ) → r ≤ revision_of history → endpoint.added ≤ r → live_endpoint endpoint (state_now options history) ≡ Some row
      → live_endpoint endpoint (state_after options history r) ≡ Some row
  lives-then r within old live =
      lives-back r (revision_of history) within old
      (subst (λ (s : State). live_endpoint endpoint s ≡ Some row) (sym (state-now options history)) live)
