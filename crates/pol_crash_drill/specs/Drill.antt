-- **The drill of a crash**: a script is played over an empty disk in memory that fails from a call on. Then the disk crashes, with all
-- that was written where the call's number is odd, and with what a sync had put on it where that is even; and its journal is opened
-- again ('profile').
use Rattle.std.specs.Prelude.{◌≡◌, ℕ, zero, suc, ◌+◌, ◌-◌, ◌*◌, ◌/◌, ◌%◌, ◌==◌, nat_le, nat_lt, if◌then◌else◌, List, [], ◌∷◌, ◌++◌, codes, length}
use Rattle.std.specs.Fmt.{decimal}
use Rattle.pol_answer.specs.Text.{texts_of}
use Rattle.pol_answer.specs.declared.answer.Answer.{Answer}
use Rattle.pol_history.specs.Machine.{Machine}
use Rattle.pol_machine.specs.Serial.{machine_of}
use Rattle.pol_model.specs.declared.options.Options.{Options}
use Rattle.pol_model.specs.declared.request.Request.{Request}
use Rattle.pol_run.specs.Run.{status_of}
use Rattle.pol_run.specs.Spots.{Reading}
use Rattle.pol_serial_run.specs.Accepted.{accepted, accepted_by}
use Rattle.pol_serial_run.specs.SerialRun.{IsSerial, machine_then}

-- ---- which lines are answered

-- a line, by what is accepted of it, and the lines behind it; none where that is the request before which the count runs out
abbrev pub up_to : List Request → ℕ → Reading → (ℕ → List Reading) → List Reading
up_to [] count reading later = reading ∷ later count
up_to (request ∷ more) zero reading later = []
up_to (request ∷ more) (suc count) reading later = reading ∷ later count

-- the lines before that of the request that is accepted after so many others, and all lines where there is none
abbrev pub before_accepted : Options → Machine → ℕ → List Reading → List Reading
before_accepted options m count [] = []
before_accepted options m count (reading ∷ readings) =
    up_to (accepted_by options m reading) count reading (λ left. before_accepted options (machine_then options m reading) left readings)

-- ---- the calls of the disk: opening makes three, and each accepted request four

-- so a call behind the first three is one for the request that is accepted after so many others
abbrev pub requests_before : ℕ → ℕ
requests_before call = (call - 4) / 4

-- the lines that are answered before the call fails
abbrev pub lines_played : Options → ℕ → List Reading → List Reading
lines_played options call readings =
    if nat_le call 3 then [] else before_accepted options (machine_of options []) (requests_before call) readings

-- How many requests are found, of so many that the whole script accepts. Where no call failed, all of them; where one did, those before
-- it, and the one that it was for if its last call failed: then its gate was open in what was written.
abbrev pub found : ℕ → ℕ → ℕ
found call all =
    if nat_le call 3 then 0
    else (if nat_lt (3 + 4 * all) call then all else (requests_before call + (if call % 4 == 3 then 1 else 0)))

-- ---- the text

-- `restart N`
abbrev pub restart_text : ℕ → List ℕ
restart_text count = codes "restart " ++ decimal count ++ codes "\n"

-- the answers of the serial run to the lines before the call fails, and how many requests are found; the status is that of the answers
pub record IsDrill (options : Options) (call : ℕ) (readings : List Reading) (text : List ℕ) (status : ℕ) : Type 0 where
  pub answers : List Answer
  pub serial : IsSerial options [] (lines_played options call readings) answers
  pub text_is : text ≡ texts_of answers ++ restart_text (found call (length (accepted options [] readings)))
  pub status_is : status ≡ status_of answers
