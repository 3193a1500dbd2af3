-- What refutes a small output: the endpoint of a line, and what the lines before it have shown.
use Rattle.std.proofs.Common.{◌≡◌, ℕ, ◌≤◌, ◌<◌, IsTrue, List, [], ◌∷◌, Contains, None, Some, sym, subst, arith}
use Rattle.pol_addr.specs.Address.{addr_of_octets}
use Rattle.pol_mapkey.specs.declared.Word.{Word}
use Rattle.pol_mapkey.specs.declared.Word.TheVariants.{Allowed, DeniedByDefault}
use Rattle.pol_model.specs.Endpoints.{endpoint_of}
use Rattle.pol_model.specs.Remote.{verdict_for}
use Rattle.pol_model.specs.declared.answer.Fault.TheVariants.{DuplicateEndpoint, UnknownEndpoint}
use Rattle.pol_model.specs.declared.answer.FullSlot.{FullSlot}
use Rattle.pol_model.specs.declared.options.Options.{Options}
use Rattle.pol_model.specs.declared.request.Query.{Query}
use Rattle.pol_model.specs.declared.row.Endpoint.{Endpoint}
use Rattle.pol_model.specs.FullRows.{fits_limit}
use Rattle.pol_model_laws.proofs.Lives.{found_back}
use Rattle.pol_script.specs.declared.line_fault.LineFault.TheVariants as line
use Rattle.pol_run.specs.Spots.{Spot, stands_before}
use Rattle.pol_run.specs.History.{history_of, state_at}
use Rattle.pol_run.specs.Endpoints.{IsVerdictFor, size_at}
use Rattle.pol_run.specs.RightAnswer.{IsRightVerdict}
use Rattle.pol_run.specs.ExampleLines.{web, db}

-- an endpoint without labels, in the first slot
abbrev pub web_since : ℕ → Endpoint
web_since added = record { name = web; slot = 0; added = added; labels = []; identity = 256; address = addr_of_octets 10 0 0 1 }

-- another, in the second
abbrev pub db_since : ℕ → Endpoint
db_since added = record { name = db; slot = 1; added = added; labels = []; identity = 256; address = addr_of_octets 10 0 0 2 }

-- ---- values that differ

pub some_is_none : {X : Type 0} (x : X) → Some x ≡ None → ⊥
some_is_none x same = cc

pub none_is_some : {X : Type 0} (x : X) → None ≡ Some x → ⊥
none_is_some x same = cc

pub some_same : {X : Type 0} (x y : X) → Some x ≡ Some y → x ≡ y
some_same x y same = cc

pub denied_is_allowed : DeniedByDefault ≡ Allowed → ⊥
denied_is_allowed same = cc

pub some_row_is_none : (row : FullSlot) (rows : List FullSlot) → row ∷ rows ≡ [] → ⊥
some_row_is_none row rows same = cc

pub less_is_same : (m n : ℕ) → m < n → m ≡ n → ⊥
less_is_same m n less same = omega arith

pub allowed_is_denied : Allowed ≡ DeniedByDefault → ⊥
allowed_is_denied same = cc

pub unknown_is_duplicate : UnknownEndpoint ≡ DuplicateEndpoint → ⊥
unknown_is_duplicate same = cc

pub no_op_is_json : line.NoOp ≡ line.Json → ⊥
no_op_is_json same = cc

-- ---- the endpoint of a line

-- a look-up finds one endpoint
pub found_same : (name : List ℕ) (endpoints : List Endpoint) (e f : Endpoint)
    → endpoint_of name endpoints ≡ Some e → endpoint_of name endpoints ≡ Some f → e ≡ f
found_same name endpoints e f first second = cc

module _ (options : Options) (spots : List Spot) (spot : Spot) (query : Query) (revision : ℕ) (word : Word)
    (right : IsRightVerdict options spots spot query revision word) (e : Endpoint) where
  -- the endpoint of a verdict is the one that is live at its moment
  pub endpoint_at_moment : (k : ℕ) → right.moment ≡ k → endpoint_of query.endpoint (state_at options spots k).endpoints ≡ Some e
      → right.endpoint ≡ e
  endpoint_at_moment k same found =
      found_same query.endpoint (state_at options spots k).endpoints right.endpoint e
      (subst (λ (n : ℕ). endpoint_of query.endpoint (state_at options spots n).endpoints ≡ Some right.endpoint) same right.live.found)
      found

  module _ (found : endpoint_of query.endpoint (state_at options spots revision).endpoints ≡ Some e) where
    -- it is live at its revision
    pub verdict_endpoint : right.endpoint ≡ e
    verdict_endpoint =
        found_same query.endpoint (state_at options spots revision).endpoints right.endpoint e
        (found_back options (history_of spots) revision right.moment query.endpoint right.endpoint right.by_moment right.since_added right.live.found)
        found

    -- so no verdict line before was for it at a later revision
    pub verdict_bound : (other : Spot) (seen : ℕ) → Contains spots other → IsTrue (stands_before other spot)
        → IsVerdictFor options spots other query.endpoint e.added seen → seen ≤ revision
    verdict_bound other seen listed before verdict =
        right.verdicts_seen other seen listed before
        (subst (λ (x : Endpoint). IsVerdictFor options spots other query.endpoint x.added seen) (sym verdict_endpoint) verdict)

    -- its word is that of the scan, and its map may be published
    pub verdict_word : word ≡ verdict_for options (state_at options spots revision) query e
    verdict_word = subst (λ (x : Endpoint). word ≡ verdict_for options (state_at options spots revision) query x) verdict_endpoint right.scan

    pub verdict_fits : IsTrue (fits_limit options.map_max (size_at options spots revision e))
    verdict_fits =
        subst (λ (x : Endpoint). IsTrue (fits_limit options.map_max (size_at options spots revision x))) verdict_endpoint right.fits
