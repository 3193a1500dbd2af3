-- How a run ends.
use Rattle.std.specs.Prelude.{ℕ, Bool, true, false, List, [], ◌∷◌, codes, Option, None, Some}
use Rattle.std.specs.declared.io.ErrorKind.{ErrorKind}
use Rattle.std.specs.declared.io.ErrorKind.TheVariants.{OutOfMemory}
use Rattle.connections.specs.declared.status.RunEnd.{RunEnd}
use Rattle.connections.specs.declared.status.RunEnd.TheVariants.{Same, Refused, Usage, Changes, Write, Memory, TooLong, Read}

-- the program's exit status
abbrev pub status_number : RunEnd → ℕ
status_number Same = 0
status_number Refused = 1
status_number Usage = 2
status_number Changes = 3
status_number Write = 4
status_number Memory = 5
status_number TooLong = 6
status_number Read = 7

-- what is said to standard error, where not all was written
abbrev pub complaint : RunEnd → Option (List ℕ)
complaint Same = None
complaint Refused = None
complaint Usage = Some (codes "connections: usage")
complaint Changes = None
complaint Write = Some (codes "connections: write failed")
complaint Memory = Some (codes "connections: out of memory")
complaint TooLong = Some (codes "connections: input too long")
complaint Read = Some (codes "connections: read failed")

-- words that can't be read are a faulty command line, unless memory ran out
abbrev pub status_without_words : ErrorKind → RunEnd
status_without_words OutOfMemory = Memory
status_without_words _ = Usage

-- the statuses at which all was written
abbrev pub is_answered : RunEnd → Bool
is_answered Same = true
is_answered Refused = true
is_answered Usage = false
is_answered Changes = true
is_answered Write = false
is_answered Memory = false
is_answered TooLong = false
is_answered Read = false

-- the statuses at which nothing was written
abbrev pub is_silent : RunEnd → Bool
is_silent Same = false
is_silent Refused = false
is_silent Usage = true
is_silent Changes = false
is_silent Write = false
is_silent Memory = true
is_silent TooLong = true
is_silent Read = true

-- the statuses at which the input was read whole, and is within the limits
abbrev pub has_read_all : RunEnd → Bool
has_read_all Same = true
has_read_all Refused = true
has_read_all Usage = false
has_read_all Changes = true
has_read_all Write = true
has_read_all Memory = false
has_read_all TooLong = false
has_read_all Read = false

-- all statuses, by their numbers
abbrev pub statuses : List RunEnd
statuses = Same ∷ Refused ∷ Usage ∷ Changes ∷ Write ∷ Memory ∷ TooLong ∷ Read ∷ []
