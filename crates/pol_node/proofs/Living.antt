-- Whether an endpoint is live, by the row that its name has.
use Rattle.std.proofs.Common.{◌≡◌, ◌==◌, Bool, true, false, Some, MatchBool, sym, ap, ◌∙◌, arith}
use Rattle.std.proofs.lemmas.Bool.{eqb-true}
use Rattle.std.proofs.lemmas.Bool.Decides.{nat_tests}
use Rattle.pol_model.specs.Endpoints.{endpoint_of}
use Rattle.pol_model.specs.State.{State}
use Rattle.pol_model.specs.declared.row.Endpoint.{Endpoint}
use Rattle.pol_history.specs.declared.event.EndpointId.{EndpointId}
use Rattle.pol_history.specs.Commits.{Lives}
use Rattle.pol_history.proofs.Same.{live-parts, live-whole}

module _ (s : State) (endpoint : EndpointId) where
  pub lives_by : (row : Endpoint) (test : Bool) → endpoint_of endpoint.name s.endpoints ≡ Some row → (row.added == endpoint.added) ≡ test
      → MatchBool test (Lives s endpoint) (Lives s endpoint → ⊥)
  lives_by row true found is = record { row = row; found = live-whole endpoint s row found (eqb-true row.added endpoint.added is) }
  lives_by row false found is = λ lives.
      let both = live-parts endpoint s lives.row lives.found in
      let one : Some row ≡ Some lives.row = sym found ∙ both.0 in
      let same : row ≡ lives.row = (cc) in
      let added : row.added ≡ endpoint.added = ap (λ (r : Endpoint). r.added) same ∙ both.1 in
      absurd (grind (arith, nat_tests, added, is))
