-- How a run ends.
use Rattle.std.specs.Prelude.{ℕ, Bool, true, false, List, [], ◌∷◌, codes, Option, None, Some}
use Rattle.std.specs.declared.io.ErrorKind.{ErrorKind}
use Rattle.std.specs.declared.io.ErrorKind.TheVariants.{OutOfMemory}
use Rattle.policyd.specs.declared.status.Status.{Status}
use Rattle.policyd.specs.declared.status.Status.TheVariants.{Clean, Marked, Usage, Read, Write, Memory, TooLong}

-- the program's exit status
abbrev pub status_number : Status → ℕ
status_number Clean = 0
status_number Marked = 1
status_number Usage = 2
status_number Read = 3
status_number Write = 4
status_number Memory = 5
status_number TooLong = 6

-- what is said to standard error, where the answers were not all written
abbrev pub complaint : Status → Option (List ℕ)
complaint Clean = None
complaint Marked = None
complaint Usage = Some (codes "policyd: usage")
complaint Read = Some (codes "policyd: read failed")
complaint Write = Some (codes "policyd: write failed")
complaint Memory = Some (codes "policyd: out of memory")
complaint TooLong = Some (codes "policyd: input too long")

-- words that can't be read are a faulty command line, unless memory ran out
abbrev pub status_without_words : ErrorKind → Status
status_without_words OutOfMemory = Memory
status_without_words _ = Usage

-- the statuses at which every answer was written
abbrev pub is_answered : Status → Bool
is_answered Clean = true
is_answered Marked = true
is_answered Usage = false
is_answered Read = false
is_answered Write = false
is_answered Memory = false
is_answered TooLong = false

-- the statuses at which nothing was written
abbrev pub is_silent : Status → Bool
is_silent Clean = false
is_silent Marked = false
is_silent Usage = true
is_silent Read = true
is_silent Write = false
is_silent Memory = true
is_silent TooLong = true

-- the statuses at which the script was read whole, and is within the limits
abbrev pub has_read_all : Status → Bool
has_read_all Clean = true
has_read_all Marked = true
has_read_all Usage = false
has_read_all Read = false
has_read_all Write = true
has_read_all Memory = false
has_read_all TooLong = false

-- all statuses, by their numbers
abbrev pub statuses : List Status
statuses = Clean ∷ Marked ∷ Usage ∷ Read ∷ Write ∷ Memory ∷ TooLong ∷ []
