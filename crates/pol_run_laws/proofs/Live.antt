-- Endpoints that are live after the first events of a history, and their maps.
use Rattle.std.proofs.Common.{◌≡◌, ℕ, ◌≤◌, IsTrue, List, length, take, slice_get, Option, Some, option_map, refl, ap, sym, ◌∙◌, subst}
use Rattle.std.proofs.lemmas.Bool.{leb-true}
use Rattle.pol_mapkey.specs.Entries.{Entry as MapEntry}
use Rattle.pol_model.specs.Endpoints.{endpoint_of}
use Rattle.pol_model.specs.PolicyMap.{map_size, policy_map}
use Rattle.pol_model.specs.State.{State}
use Rattle.pol_model.specs.declared.options.Options.{Options}
use Rattle.pol_model.specs.declared.row.Endpoint.{Endpoint}
use Rattle.pol_model.specs.FullRows.{fits_limit}
use Rattle.pol_run.specs.InShort.{LivesAfter}
use Rattle.pol_history.specs.declared.event.EndpointId.{EndpointId}
use Rattle.pol_history.specs.declared.event.HistoryEvent.{HistoryEvent}
use Rattle.pol_history.specs.declared.event.HistoryEvent.TheVariants as event
use Rattle.pol_history.specs.Commits.{commits_in, live_endpoint, revision_of, state_after, state_now}
use Rattle.pol_history.specs.Legal.{IsLegal}
use Rattle.pol_history.specs.Reports.{IsReport}
use Rattle.pol_history.proofs.Cuts.{state-take, state-then}
use Rattle.pol_history.proofs.Lives.{lives-back, lives-then}
use Rattle.pol_history.proofs.Same.{live-parts, live-whole}
use Rattle.pol_run_laws.proofs.Looks.{id_of}
use Rattle.pol_run_laws.proofs.Places.{same_element}
use Rattle.pol_history.proofs.Published.{PublishesAt}

module _ (options : Options) (history : List HistoryEvent) (name : List ℕ) (row : Endpoint) where
  -- an endpoint was live at each revision before, since it was added
  pub live_before : (r k : ℕ) → r ≤ k → row.added ≤ r → LivesAfter options (commits_in history) k name row
      → LivesAfter options (commits_in history) r name row
  live_before r k fewer old live =
      (live-parts (id_of name row) (state_after options history r) row
      (lives-back options history (id_of name row) row r k fewer old
      (live-whole (id_of name row) (state_after options history k) row live refl))).0

  -- what is live after the first n events is live at their revision, and the other way round
  pub live_then : (n : ℕ) → endpoint_of name (state_now options (take n history)).endpoints ≡ Some row
      → LivesAfter options (commits_in history) (revision_of (take n history)) name row
  live_then n live = subst (λ (s : State). endpoint_of name s.endpoints ≡ Some row) (sym (state-then options n history)) live

  pub live_there : (n : ℕ) → LivesAfter options (commits_in history) (revision_of (take n history)) name row
      → endpoint_of name (state_now options (take n history)).endpoints ≡ Some row
  live_there n live = subst (λ (s : State). endpoint_of name s.endpoints ≡ Some row) (state-then options n history) live

  -- at a revision of the first n events, in their words
  pub live_of_first : (n r : ℕ) → r ≤ revision_of (take n history) → LivesAfter options (commits_in history) r name row
      → endpoint_of name (state_after options (take n history) r).endpoints ≡ Some row
  live_of_first n r within live = subst (λ (s : State). endpoint_of name s.endpoints ≡ Some row) (state-take options n history r within) live

-- the row of an endpoint at a report of it
pub record IsReported (options : Options) (history : List HistoryEvent) (endpoint : EndpointId) (revision : ℕ) : Type 0 where
  pub row : Endpoint
  pub live : live_endpoint endpoint (state_after options history revision) ≡ Some row
  pub same : row.added ≡ endpoint.added
  pub lives : LivesAfter options (commits_in history) revision endpoint.name row

-- two rows that are live at one revision under one name
pub one_row : (options : Options) (history : List HistoryEvent) (r : ℕ) (name : List ℕ) (a b : Endpoint)
    → LivesAfter options (commits_in history) r name a → LivesAfter options (commits_in history) r name b → a ≡ b
one_row options history r name a b first second = same_element a b (sym first ∙ second)

module _ (options : Options) (history : List HistoryEvent) (legal : IsLegal options history) (place : ℕ) (endpoint : EndpointId) (revision : ℕ) where
  -- at a report of an endpoint, it was live at the report's revision
  pub reported : IsReport history place endpoint revision → IsReported options history endpoint revision
  reported report =
      let is = legal.live place endpoint revision report in
      let within = legal.committed place endpoint revision report in
      let live : live_endpoint endpoint (state_after options history revision) ≡ Some is.row =
      subst (λ (s : State). live_endpoint endpoint s ≡ Some is.row) (sym (state-take options place history revision within))
      (lives-then options (take place history) endpoint is.row revision within (legal.since_added place endpoint revision report) is.found) in
      let parts = live-parts endpoint (state_after options history revision) is.row live in
      record { row = is.row; live = live; same = parts.1; lives = parts.0 }

  -- a published map fits the limit
  pub published_fits : (table : List MapEntry) → PublishesAt history endpoint place revision table → (is : IsReported options history endpoint revision)
      → IsTrue (fits_limit options.map_max (map_size options (state_after options history revision) is.row))
  published_fits table there is =
      let s = state_after options history revision in
      let entries : policy_map options s is.row ≡ table =
      same_element (policy_map options s is.row) table
      (sym (ap (option_map (policy_map options s)) is.live) ∙ legal.table place endpoint revision table there) in
      subst (λ (entries : List MapEntry). IsTrue (fits_limit options.map_max (length entries))) (sym entries)
      (legal.fits place endpoint revision table there)

  -- a map that was blocked has as many entries as was told
  pub blocked_count : (count : ℕ) → slice_get history place ≡ Some (event.Blocked endpoint revision count)
      → (is : IsReported options history endpoint revision) → count ≡ map_size options (state_after options history revision) is.row
  blocked_count count there is =
      let s = state_after options history revision in
      sym (same_element (map_size options s is.row) count
      (sym (ap (option_map (map_size options s)) is.live) ∙ legal.count place endpoint revision count there))

-- ---- limits

module _ (options : Options) (count limit : ℕ) (is : options.map_max ≡ Some limit) where
  pub fits_within : IsTrue (fits_limit options.map_max count) → count ≤ limit
  fits_within fits = leb-true count limit (subst (λ (o : Option ℕ). IsTrue (fits_limit o count)) is fits)
