-- How a run ends ('profile').
use Rattle.std.specs.Prelude.{ℕ, Bool, true, false, List, [], ◌∷◌, codes, Option, None, Some}
use Rattle.pol_status.specs.declared.status.Status.{Status}
use Rattle.pol_status.specs.declared.status.Status.TheVariants.{Clean, Marked, Usage, Read, Write, Memory, TooLong, Disk, Damaged}

-- the program's exit status
abbrev pub status_number : Status → ℕ
status_number Clean = 0
status_number Marked = 1
status_number Usage = 2
status_number Read = 3
status_number Write = 4
status_number Memory = 5
status_number TooLong = 6
status_number Disk = 7
status_number Damaged = 8

-- what is said to standard error, where the answers were not all written
abbrev pub complaint : Status → Option (List ℕ)
complaint Clean = None
complaint Marked = None
complaint Usage = Some (codes "policyd: usage")
complaint Read = Some (codes "policyd: read failed")
complaint Write = Some (codes "policyd: write failed")
complaint Memory = Some (codes "policyd: out of memory")
complaint TooLong = Some (codes "policyd: input too long")
complaint Disk = Some (codes "policyd: disk failed")
complaint Damaged = Some (codes "policyd: journal damaged")

-- the statuses at which every answer was written
abbrev pub is_answered : Status → Bool
is_answered Clean = true
is_answered Marked = true
is_answered Usage = false
is_answered Read = false
is_answered Write = false
is_answered Memory = false
is_answered TooLong = false
is_answered Disk = false
is_answered Damaged = false

-- all statuses, by their numbers
abbrev pub statuses : List Status
statuses = Clean ∷ Marked ∷ Usage ∷ Read ∷ Write ∷ Memory ∷ TooLong ∷ Disk ∷ Damaged ∷ []

-- ---- where the script is read whole before its first line is played

-- the statuses at which nothing was written
abbrev pub is_silent : Status → Bool
is_silent Clean = false
is_silent Marked = false
is_silent Usage = true
is_silent Read = true
is_silent Write = false
is_silent Memory = true
is_silent TooLong = true
is_silent Disk = false
is_silent Damaged = true

-- the statuses at which the script was read whole, and is within the limits
abbrev pub has_read_all : Status → Bool
has_read_all Clean = true
has_read_all Marked = true
has_read_all Usage = false
has_read_all Read = false
has_read_all Write = true
has_read_all Memory = false
has_read_all TooLong = false
has_read_all Disk = true
has_read_all Damaged = true

-- those at which the disk was opened too, and each line up to the last answer was played
abbrev pub has_opened : Status → Bool
has_opened Clean = true
has_opened Marked = true
has_opened Usage = false
has_opened Read = false
has_opened Write = true
has_opened Memory = false
has_opened TooLong = false
has_opened Disk = false
has_opened Damaged = false
