-- What the record of a disk in memory says of its bytes and of a crash.
use Rattle.std.specs.Prelude.{◌≡◌, ◌⊎◌, ◌≤◌, ℕ, Bool, if◌then◌else◌, List, [], ◌∷◌, length, take}
use Rattle.pol_disk.specs.declared.call.DiskCall.{DiskCall}
use Rattle.pol_disk.specs.declared.call.DiskCall.TheVariants.{Write, Cut, Sync, Crash}
use Rattle.pol_disk.specs.Images.{CutShort, Only, Torn, overwritten}

-- the bytes that a read gives, those that the last sync put on the disk, and what the calls since then may have made of those
pub record Held : Type 1 where
  pub bytes : List ℕ
  pub synced : List ℕ
  pub torn : List ℕ → Type 0

-- all of them are on the disk
abbrev pub settled : List ℕ → Held
settled bytes = record { bytes = bytes; synced = bytes; torn = λ c. c ≡ bytes }

abbrev pub kept_bytes : Bool → Held → List ℕ
kept_bytes keep h = if keep then h.bytes else h.synced

abbrev pub held_after : Held → DiskCall → Held
held_after h (Write at bytes) = record {
  bytes = overwritten h.bytes at bytes;
  synced = h.synced;
  torn = λ c. (d : List ℕ) × h.torn d × Torn at (length bytes) d c;
}
held_after h (Cut len) = record {
  bytes = take len h.bytes;
  synced = h.synced;
  torn = λ c. (d : List ℕ) × h.torn d × CutShort len d c;
}
held_after h Sync = settled h.bytes
held_after h (Crash keep) = settled (kept_bytes keep h)

-- what is held after these calls, the first of them first
abbrev pub held_from : Held → List DiskCall → Held
held_from h [] = h
held_from h (call ∷ calls) = held_from (held_after h call) calls

abbrev pub held : List DiskCall → Held
held past = held_from (settled []) past

-- what was written stayed whole, or not
abbrev pub IsImage : Held → List ℕ → Type 0
IsImage h c = (c ≡ h.bytes) ⊎ h.torn c

-- a crash after t of these calls or later may have left it
abbrev pub LeftSince : List DiskCall → ℕ → List ℕ → Type 0
LeftSince past t c = (k : ℕ) × (t ≤ k) × (k ≤ length past) × IsImage (held (take k past)) c

-- these bytes are what a read gives, and a crash leaves nothing else
pub record IsSettled (bytes : List ℕ) (past : List DiskCall) : Type 0 where
  pub read : (held past).bytes ≡ bytes
  pub synced : (held past).synced ≡ bytes
  pub only : Only bytes (IsImage (held past))
