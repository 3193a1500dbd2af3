-- The state at the end of lines, and the slot of a live endpoint.
use Rattle.std.proofs.Common.{◌≡◌, ℕ, Bool, List, [], Option, Some, is_some, bytes_eq, sym, ◌∙◌}
use Rattle.pol_model_laws.proofs.Keyed.{found_by_number}
use Rattle.pol_model_laws.proofs.Membership.{find-In}
use Rattle.pol_model.proofs.AscendingStates.{state_slots_ascend}
use Rattle.pol_model.specs.After.{state_of}
use Rattle.pol_model.specs.Endpoints.{endpoint_of}
use Rattle.pol_model.specs.declared.options.Options.{Options}
use Rattle.pol_model.specs.declared.request.Request.{Request}
use Rattle.pol_model.specs.declared.row.Endpoint.{Endpoint}
use Rattle.pol_repo.specs.Repository.{Repository, state_in}
use Rattle.pol_run.specs.Spots.{Reading}
use Rattle.pol_tables.specs.Tables.{endpoint_in}
use Rattle.pol_script_commits.specs.Left.{state_after, state_left}
use Rattle.pol_script_commits.proofs.Starting.{at_end}
use Rattle.pol_map_dump.specs.AtEnd.{endpoint_after, map_text_after, map_text_in}

-- an endpoint that is found by its name is found by its slot
pub slot_found : (options : Options) (requests : List Request) (name : List ℕ) (endpoint : Endpoint)
    → endpoint_of name (state_of options requests).endpoints ≡ Some endpoint
    → endpoint_in endpoint.slot (state_of options requests).endpoints ≡ Some endpoint
slot_found options requests name endpoint found =
    found_by_number (λ (e : Endpoint). e.slot) endpoint (state_of options requests).endpoints (state_slots_ascend options requests)
    (find-In (λ (e : Endpoint). bytes_eq e.name name) endpoint (state_of options requests).endpoints found).0

-- what is found is one
pub one_endpoint : (found : Option Endpoint) (a b : Endpoint) → found ≡ Some a → found ≡ Some b → a ≡ b
one_endpoint found a b one other = let same : ◌≡◌ {A = Option Endpoint} (Some a) (Some b) = sym one ∙ other in cc

-- ---- what is told of an endpoint, over a repository to which the lines were committed from the first request on
module _ (old new : Repository) (name : List ℕ) (readings : List Reading) (first : old.journal ≡ []) (same : new.options ≡ old.options)
    (committed : state_in new ≡ state_left (state_in old) readings) where
  left : state_in new ≡ state_after old.options readings
  left = at_end old new readings first committed

  pub text_at_end : (text : List ℕ) → text ≡ map_text_in new.options (state_in new) (endpoint_of name (state_in new).endpoints)
      → text ≡ map_text_after old.options name readings
  text_at_end text told = told ∙ (λ i. map_text_in (same i) (left i) (endpoint_of name (left i).endpoints))

  pub live_at_end : (live : Bool) → live ≡ is_some (endpoint_of name (state_in new).endpoints) → live ≡ is_some (endpoint_after old.options name readings)
  live_at_end live told = told ∙ (λ i. is_some (endpoint_of name (left i).endpoints))
