-- The states that a journal's requests make, and what a journal of records stands for.
use Rattle.std.proofs.Common.{◌≡◌, ◌<◌, ◌^◌, ℕ, List, [], ◌∷◌, length, Option, None, Some, is_some, refl, ap, ◌∙◌}
use Rattle.pol_journal.specs.Journal.{asked_in, commits}
use Rattle.pol_model.specs.After.{after, start, state_of}
use Rattle.pol_model.specs.After as model
use Rattle.pol_model.specs.Fault.{fault_of}
use Rattle.pol_model.specs.State.{State}
use Rattle.pol_model.specs.declared.answer.Fault.{Fault}
use Rattle.pol_model.specs.declared.options.Options.{Options}
use Rattle.pol_model.specs.declared.request.Request.{Request}
use Rattle.pol_record_log.specs.Log.{after_all}
use Rattle.pol_record_log.proofs.Logs.{MayFollow}

same_after : (s : State) (requests : List Request) → after_all commits s requests ≡ model.after_all s requests
same_after s [] = refl
same_after s (request ∷ requests) = same_after (after s request) requests

-- the state after the requests is that of the model
pub after_requests : (options : Options) (requests : List Request) → after_all commits (start options) requests ≡ state_of options requests
after_requests options requests = same_after (start options) requests

-- a line that asks what has no fault after the requests may follow their records
pub may_follow : (options : Options) (requests : List Request) (request : Request) (line : List ℕ) → length line < 2 ^ 32 → asked_in line ≡ Some request
    → fault_of (state_of options requests) request ≡ None → MayFollow commits (after_all commits (start options) requests) request line
may_follow options requests request line short asked none = record {
  short = short;
  asked = asked;
  no_fault = ap (λ (s : State). is_some (fault_of s request)) (after_requests options requests) ∙ ap (λ (f : Option Fault). is_some f) none;
}
