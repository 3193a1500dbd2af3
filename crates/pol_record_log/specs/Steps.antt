-- What the steps of a log leave.
use Rattle.std.specs.Prelude.{◌≡◌, ◌⊎◌, ℕ, ◌+◌, ◌-◌, ◌^◌, min, nat_le, if◌then◌else◌, List, [], ◌∷◌, ◌++◌, length, take}
use Rattle.pol_disk.specs.Calls.{Asked, Writes, Syncs}
use Rattle.pol_disk.specs.Images.{Only}
use Rattle.pol_record_log.specs.Log.{last_gate}

-- so many calls later, as far as a u64 goes
abbrev pub calls_later : ℕ → ℕ → ℕ
calls_later calls clock = min (clock + calls) (2 ^ 64 - 1)

-- these are the bytes, and all of them are on the disk
pub record IsOnDisk {D : Type 0} (seen : D → List ℕ) (may_leave : D → List ℕ → Type 0) (disk : D) (bytes : List ℕ) : Type 0 where
  pub read : seen disk ≡ bytes
  pub only : Only bytes (may_leave disk)

-- all but the last byte
abbrev pub before_gate : List ℕ → List ℕ
before_gate bytes = take (length bytes - 1) bytes

-- the last byte is a closed gate
abbrev pub EndsClosed : List ℕ → Type 0
EndsClosed bytes = bytes ≡ before_gate bytes ++ 0 ∷ []

-- What an opened log on these bytes has: of at most one byte a closed gate, and of others those up to the closed gate that ends them.
abbrev pub cut_to_log : List ℕ → List ℕ
cut_to_log bytes = if nat_le (length bytes) 1 then (0 ∷ []) else take (last_gate bytes + 1) bytes

-- the first of the bytes, and then a closed gate or any gate with this behind it
abbrev pub IsAppended : List ℕ → List ℕ → List ℕ → Type 0
IsAppended front behind c = ((rest : List ℕ) × (c ≡ front ++ 0 ∷ rest)) ⊎ ((gate : ℕ) × (c ≡ front ++ gate ∷ behind))

-- the calls that make an empty log: a closed gate is written, and synced
abbrev pub calls_of_start : List Asked
calls_of_start = Writes 0 (0 ∷ []) ∷ Syncs ∷ []

-- The calls that put a record behind the closed gate at this end: the record with the gate behind it is written and synced, and
-- then the gate before it is opened and synced.
abbrev pub calls_of_append : ℕ → List ℕ → List Asked
calls_of_append end behind = Writes end behind ∷ Syncs ∷ Writes (end - 1) (1 ∷ []) ∷ Syncs ∷ []
