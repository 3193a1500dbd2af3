-- How a run over a file ends ('profile').
use Rattle.std.specs.Prelude.{ℕ, Bool, true, false, if◌then◌else◌, List, codes, Option, Some, Result, Ok, Err}
use Rattle.std.specs.declared.io.ErrorKind.{ErrorKind}
use Rattle.std.specs.declared.io.ErrorKind.TheVariants.{OutOfMemory}
use Rattle.pol_status.specs.Ends.{complaint, is_answered, status_number}
use Rattle.pol_status.specs.declared.status.Status.{Status}
use Rattle.pol_status.specs.declared.status.Status.TheVariants.{Clean, Marked, Usage, Read, Write, Memory, TooLong, Disk, Damaged}
use Rattle.policyd_kept.specs.declared.end.FileEnd.{FileEnd}
use Rattle.policyd_kept.specs.declared.end.FileEnd.TheVariants.{Served, NotOpened, Held}

-- the exit status
abbrev pub end_number : FileEnd → ℕ
end_number (Served status) = status_number status
end_number NotOpened = 9
end_number Held = 10

-- what is said to standard error, where not every line was answered
abbrev pub end_complaint : FileEnd → Option (List ℕ)
end_complaint (Served status) = complaint status
end_complaint NotOpened = Some (codes "policyd: journal can't be opened")
end_complaint Held = Some (codes "policyd: journal is held")

-- words that can't be read are a faulty command line, unless memory ran out
abbrev pub end_without_words : ErrorKind → FileEnd
end_without_words OutOfMemory = Served Memory
end_without_words _ = Served Usage

-- ---- over an opened file

-- the statuses at which the journal was opened, and lines were answered up to the end or up to what is told
abbrev pub has_served : Status → Bool
has_served Clean = true
has_served Marked = true
has_served Usage = false
has_served Read = true
has_served Write = true
has_served Memory = false
has_served TooLong = true
has_served Disk = false
has_served Damaged = false

-- the status once all lines were answered, or else why they weren't
abbrev pub end_of_lines : Bool → Result (Unit {0}) Status → Status
end_of_lines marked (Ok done) = if marked then Marked else Clean
end_of_lines marked (Err status) = status

-- every line was answered
abbrev pub is_answered_end : FileEnd → Bool
is_answered_end (Served status) = is_answered status
is_answered_end NotOpened = false
is_answered_end Held = false
