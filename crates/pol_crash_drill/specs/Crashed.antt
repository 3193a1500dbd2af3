-- A disk in memory whose call has failed, before it crashes.
use Rattle.std.specs.Prelude.{◌≡◌, ℕ, ◌%◌, ◌==◌, Bool, false, List, [], length, Some}
use Rattle.std.specs.List.{list_any}
use Rattle.pol_answer.specs.Text.{texts_of}
use Rattle.pol_answer.specs.declared.answer.Answer.{Answer}
use Rattle.pol_disk.specs.MemDisk.{DiskState}
use Rattle.pol_disk.specs.Record.{held, kept_bytes}
use Rattle.pol_disk.specs.declared.call.DiskCall.{DiskCall}
use Rattle.pol_journal.specs.Journal.{IsJournal}
use Rattle.pol_model.specs.declared.options.Options.{Options}
use Rattle.pol_model.specs.declared.request.Request.{Request}
use Rattle.pol_run.specs.Run.{is_marked}
use Rattle.pol_run.specs.Spots.{Reading}
use Rattle.pol_serial_run.specs.Accepted.{accepted}
use Rattle.pol_serial_run.specs.SerialRun.{IsSerial}
use Rattle.pol_crash_drill.specs.Drill.{found, lines_played}

-- a disk before its first call, which fails from this one on
abbrev pub empty_disk : ℕ → DiskState
empty_disk call = record { past = []; fails_from = Some call; calls = 0; faults = 0; starved = false }

-- a crash keeps all that was written
abbrev pub keeps_all : ℕ → Bool
keeps_all call = call % 2 == 1

-- what a crash leaves of a disk on which this was done
abbrev pub left_by_crash : ℕ → List DiskCall → List ℕ
left_by_crash call past = kept_bytes (keeps_all call) (held past)

-- The lines before the call fails were answered, and a crash leaves a journal of as many requests as are found then.
pub record IsCut (options : Options) (call : ℕ) (readings : List Reading) (past : List DiskCall) (text : List ℕ) (marked : Bool) : Type 0 where
  pub answers : List Answer
  pub serial : IsSerial options [] (lines_played options call readings) answers
  pub text_is : text ≡ texts_of answers
  pub marked_is : marked ≡ list_any is_marked answers
  pub requests : List Request
  pub many : length requests ≡ found call (length (accepted options [] readings))
  pub journal : IsJournal options requests (left_by_crash call past)
