-- In a small history one endpoint is live: a row that is found is its row, and what is reported is of it.
use Rattle.std.proofs.Common.{◌≡◌, ℕ, Bool, true, false, cond, List, [], ◌∷◌, bytes_eq, None, Some, subst, ap, arith}
use Rattle.std.specs.Prelude.{⊤}
use Rattle.pol_mapkey.specs.Entries.{Entry as MapEntry}
use Rattle.pol_model.specs.Endpoints.{endpoint_of}
use Rattle.pol_model.specs.State.{State}
use Rattle.pol_model.specs.declared.row.Endpoint.{Endpoint}
use Rattle.pol_history.specs.declared.event.EndpointId.{EndpointId}
use Rattle.pol_history.specs.declared.event.HistoryEvent.{HistoryEvent}
use Rattle.pol_history.specs.declared.event.HistoryEvent.TheVariants as event
use Rattle.pol_history.specs.Commits.{live_endpoint}
use Rattle.pol_history.specs.Reports.{Reports}
use Rattle.pol_history.proofs.Lists.{no_element}
use Rattle.pol_history.proofs.Same.{live-parts}
use Rattle.pol_history.proofs.Small.{some_same}
use Rattle.pol_history.specs.ExampleEvents.{web_since}

found_only : (row found : Endpoint) (same : Bool) → cond same (Some row) None ≡ Some found → row ≡ found
found_only row found true there = some_same row found there
found_only row found false there = absurd (no_element found there)

-- where one row is live, an endpoint that is found has it
pub only_row : (s : State) (row found : Endpoint) (endpoint : EndpointId) → s.endpoints ≡ row ∷ [] → live_endpoint endpoint s ≡ Some found → row ≡ found
only_row s row found endpoint one live =
    found_only row found (bytes_eq row.name endpoint.name)
    (subst (λ (rows : List Endpoint). endpoint_of endpoint.name rows ≡ Some found) one (live-parts endpoint s found live).0)

-- so it is in that row's slot
pub only_slot : (s : State) (row found : Endpoint) (endpoint : EndpointId) (slot : ℕ) → s.endpoints ≡ row ∷ [] → row.slot ≡ 0 → live_endpoint endpoint s ≡ Some found
    → found.slot ≡ slot → slot ≡ 0
only_slot s row found endpoint slot one first live in_slot =
    let same : row.slot ≡ found.slot = ap (λ (r : Endpoint). r.slot) (only_row s row found endpoint one live) in
    omega (arith, same, first, in_slot)

pub not_first : {n : ℕ} → n ≡ 0 → n ≡ 1 → ⊥
not_first zero_is one_is = omega (arith, zero_is, one_is)

-- ---- what an event of a small history is

abbrev pub IsNoReport : HistoryEvent → Type 0
IsNoReport (event.Commit pass number request) = ⊤
IsNoReport (event.Publish endpoint revision table) = ⊥
IsNoReport (event.Blocked endpoint revision count) = ⊥

pub no_report : (e : HistoryEvent) (revision : ℕ) → IsNoReport e → Reports e (web_since 1) revision → ⊥
no_report (event.Commit pass number request) revision none reports = absurd reports
no_report (event.Publish endpoint of table) revision none reports = absurd none
no_report (event.Blocked endpoint of count) revision none reports = absurd none

-- a published map is empty, and of the endpoint that was added at revision 1
abbrev pub IsEmptyOfWeb : HistoryEvent → Type 0
IsEmptyOfWeb (event.Commit pass number request) = ⊤
IsEmptyOfWeb (event.Publish endpoint revision table) = (endpoint ≡ web_since 1) × (table ≡ [])
IsEmptyOfWeb (event.Blocked endpoint revision count) = ⊤

-- a map that is too large has two entries
abbrev pub HasTwo : HistoryEvent → Type 0
HasTwo (event.Commit pass number request) = ⊤
HasTwo (event.Publish endpoint revision table) = ⊤
HasTwo (event.Blocked endpoint revision count) = count ≡ 2

pub two_are_none : (x y : MapEntry) (table : List MapEntry) → Some (x ∷ y ∷ []) ≡ Some table → table ≡ [] → ⊥
two_are_none x y table same none = cc
