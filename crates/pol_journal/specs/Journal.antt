-- What a journal stands for: the requests that were accepted, each as the line that asked it.
use Rattle.std.specs.Prelude.{◌≡◌, ◌⊎◌, ℕ, List, [], ◌∷◌, ◌++◌, Option, None, Some, is_some, Result, Ok, Err}
use Rattle.pol_model.specs.After.{after, start}
use Rattle.pol_model.specs.Fault.{fault_of}
use Rattle.pol_model.specs.State.{State}
use Rattle.pol_model.specs.declared.options.Options.{Options}
use Rattle.pol_model.specs.declared.request.Request.{Request}
use Rattle.pol_record_log.specs.Log.{Meaning, log_of}
use Rattle.pol_script.specs.Reading.{reading_of}
use Rattle.pol_script.specs.declared.command.Command.{Command}
use Rattle.pol_script.specs.declared.command.Command.TheVariants as command
use Rattle.pol_script.specs.declared.line_fault.LineFault.{LineFault}

-- the request that a command commits
abbrev pub committed_by : Command → Option Request
committed_by (command.Commit session request) = Some request
committed_by (command.Look session query) = None
committed_by (command.Trace session query) = None
committed_by (command.Sync session) = None
committed_by command.Phase = None

abbrev pub request_of : Result Command LineFault → Option Request
request_of (Ok command) = committed_by command
request_of (Err fault) = None

-- the request of a line that is read as a commit
abbrev pub asked_in : List ℕ → Option Request
asked_in line = request_of (reading_of line)

-- a request has a fault where it would be refused after those before it
abbrev pub commits : Meaning State Request
commits = record { asked_in = asked_in; has_fault = λ s request. is_some (fault_of s request); after = after }

-- The requests that the bytes stand for, or the place of the gate where they are damaged: the record or the next gate doesn't lie
-- in the bytes, or the line isn't read as a commit, or its request has a fault after those before it ('profile').
abbrev pub journal_of : Options → List ℕ → Result (List Request) ℕ
journal_of options bytes = log_of commits (start options) bytes

-- the bytes are a journal of these requests
abbrev pub IsJournal : Options → List Request → List ℕ → Type 0
IsJournal options requests bytes = journal_of options bytes ≡ Ok requests

-- they are one of these requests, or of this one more
abbrev pub IsJournalOrOneMore : Options → List Request → Request → List ℕ → Type 0
IsJournalOrOneMore options requests request bytes = IsJournal options requests bytes ⊎ IsJournal options (requests ++ request ∷ []) bytes
