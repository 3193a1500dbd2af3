-- What was acknowledged is there: the theorem in the words of whoever reads the answers ('profile').
use Rattle.std.specs.Prelude.{◌≡◌, ◌⊎◌, ℕ, ◌<◌, ◌≤◌, List, [], ◌∷◌, ◌++◌, length, take, Option}
use Rattle.std.specs.Io.KnownBytes.{Appends}
use mathlib.Core.List.{IsPrefix}
use Rattle.pol_answer.specs.Text.{text_of, texts_of}
use Rattle.pol_answer.specs.declared.answer.Answer.{Answer}
use Rattle.pol_journal.specs.Journal.{IsJournal}
use Rattle.pol_model.specs.declared.options.Options.{Options}
use Rattle.pol_model.specs.declared.request.Request.{Request}
use Rattle.pol_run.specs.Run.{readings_of}
use Rattle.pol_run.specs.Spots.{Reading}
use Rattle.pol_serial_run.specs.Accepted.{accepted, ok_lines}
use Rattle.pol_serial_run.specs.SerialRun.{IsSerial}

-- A journal of the first requests, of those that were acknowledged, each once and in their order, and of one more at most. With that one
-- they are still a beginning of all that the script accepts.
pub record KeepsAcknowledged (options : Options) (start acknowledged all : List Request) (c : List ℕ) : Type 0 where
  pub more : List Request
  pub one_at_most : length more ≤ 1
  pub begins : IsPrefix (acknowledged ++ more) all
  pub journal : IsJournal options (start ++ acknowledged ++ more) c

-- the first bytes of the answer to the line behind these, and not all
pub record IsCut (options : Options) (start : List Request) (before later : List Reading) (answers : List Answer) (bytes : List ℕ) : Type 0 where
  pub reading : Reading
  pub behind : List Reading
  pub next : later ≡ reading ∷ behind
  pub told : Answer
  pub serial : IsSerial options start (before ++ reading ∷ []) (answers ++ told ∷ [])
  pub count : ℕ
  pub not_all : count < length (text_of told)
  pub is : bytes ≡ take count (text_of told)

-- The answers to the first lines of a script were written whole, and at most a part of the next line's. What these lines accept was acknowledged,
-- an `ok` line for each, and each image keeps it.
pub record Acknowledges (options : Options) (start : List Request) (script : List ℕ) (may_leave : List ℕ → Type 0) (old new : Option (List ℕ)) : Type 0 where
  pub before : List Reading
  pub later : List Reading
  pub split : readings_of script ≡ before ++ later
  pub answers : List Answer
  pub serial : IsSerial options start before answers
  pub as_many : ok_lines answers ≡ length (accepted options start before)
  pub rest : List ℕ
  pub cut : (rest ≡ []) ⊎ IsCut options start before later answers rest
  pub written : Appends old new (texts_of answers ++ rest)
  pub there : (c : List ℕ) → may_leave c → KeepsAcknowledged options start (accepted options start before) (accepted options start (readings_of script)) c
