-- What the calls of the node say is what lines of a session may answer.
use Rattle.std.proofs.Common.{◌≡◌, ℕ, [], ◌∷◌, Result, Ok, Err, IfOk, sym, ap, ◌∙◌}
use Rattle.pol_answer.specs.declared.answer.Answer.{Answer}
use Rattle.pol_answer.specs.declared.answer.Answer.TheVariants as answer
use Rattle.pol_model.specs.declared.answer.Committed.{Committed}
use Rattle.pol_model.specs.declared.answer.Refused.{Refused}
use Rattle.pol_model.specs.declared.options.Options.{Options}
use Rattle.pol_model.specs.declared.request.Query.{Query}
use Rattle.pol_model.specs.declared.request.Request.{Request}
use Rattle.pol_script.specs.declared.command.Command.TheVariants as command
use Rattle.pol_history.specs.Calls.{IsAccepted, IsRefused}
use Rattle.pol_history.specs.Grows.{PassGrows, PassGrowsWhole, PassState}
use Rattle.pol_history.specs.Look.{Looked, look}
use Rattle.pol_history.proofs.Meetings.{pass-grows}
use Rattle.pol_run_laws.specs.Placed.{answer_found}
use Rattle.pol_sessions.specs.Sessions.{GoesOn}

pub committed : (options : Options) (old new : PassState) (session : ℕ) (request : Request) (done : Committed)
    → PassGrowsWhole options old new (request ∷ []) → IsAccepted options old.number old.has.history new.has.history request done
    → GoesOn options old (command.Commit session request) (answer.Committed done.revision done.identity) new
committed options old new session request done grew accepted =
    record { allowed = (done.slots, accepted); grows = pass-grows options old new (request ∷ []) grew }

pub refused : (options : Options) (old new : PassState) (session : ℕ) (request : Request) (why : Refused)
    → PassGrowsWhole options old new [] → IsRefused options old.has.history new.has.history request why
    → GoesOn options old (command.Commit session request) (answer.Refused why) new
refused options old new session request why grew is = record { allowed = is; grows = pass-grows options old new [] grew }

pub looked : (options : Options) (old new : PassState) (session : ℕ) (query : Query) (told : Answer) (found : Looked)
    → look options new.has.history query ≡ found → told ≡ answer_found found → PassGrows options old new [] → GoesOn options old (command.Look session query) told new
looked options old new session query told found is tells grew = record { allowed = tells ∙ ap answer_found (sym is); grows = grew }

-- what holds for every session holds for this one
pub for_session : {A E : Type 0} (P : ℕ → A → Type 0) (session : ℕ) (r : Result A E) → IfOk r (λ x. (one : ℕ) → P one x) → IfOk r (λ x. P session x)
for_session P session (Ok x) holds = holds session
for_session P session (Err e) holds = tt
