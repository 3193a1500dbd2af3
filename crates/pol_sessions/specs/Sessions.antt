-- What playing lines of a session says of its pass.
use Rattle.std.specs.Prelude.{◌≡◌, ℕ, List, [], ◌∷◌, ◌++◌, length, slice_get, Ok, Some}
use Rattle.pol_model.specs.declared.options.Options.{Options}
use Rattle.pol_answer.specs.declared.answer.Answer.{Answer}
use Rattle.pol_script.specs.declared.command.Command.{Command}
use Rattle.pol_history.specs.declared.event.HistoryEvent.{HistoryEvent}
use Rattle.pol_history.specs.Grows.{PassGrows, PassState}
use Rattle.pol_run_laws.specs.Placed.{Allows}
use Rattle.pol_run_laws.specs.Seats.{AreNewSeats, ArePhases, HasGoneOn}
use Rattle.pol_run_laws.specs.Session.{requests_done}

-- The command was answered by a call with the pass, which has committed its request where the answer is `ok`.
pub record GoesOn (options : Options) (old : PassState) (line : Command) (answer : Answer) (new : PassState) : Type 0 where
  pub allowed : Allows options old.number old.has.history new.has.history (Ok line) answer
  pub grows : PassGrows options old new (requests_done ((line, answer) ∷ []))

-- Memory was wanting at some line: those before it were played, and the pass has committed nothing else since.
pub record HasStopped (options : Options) (old : PassState) (lines : List Command) (new : PassState) : Type 0 where
  pub played : List Command
  pub left : List Command
  pub cut : played ++ left ≡ lines
  pub answers : List Answer
  pub then : PassState
  pub gone_on : HasGoneOn options old played answers then
  pub nothing : PassGrows options then new []

-- So many sessions played the script, each with a new pass, and `last` is what a pass had seen in the end.
pub record IsScriptPlayed (options : Options) (sessions : ℕ) (phases : List (List (List Command))) (told : List (List (List Answer))) (last : List HistoryEvent) : Type 0 where
  pub handed_out : List ℕ
  pub seats : List PassState
  pub new : AreNewSeats handed_out seats
  pub as_many : length seats ≡ sessions
  pub after : List PassState
  pub are : ArePhases options handed_out seats phases told after
  pub k : ℕ
  pub seat : PassState
  pub there : slice_get after k ≡ Some seat
  pub seen : last ≡ seat.has.history
