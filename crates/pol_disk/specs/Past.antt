-- The laws of the trait, for the disk in memory.
use Rattle.std.specs.Prelude.{◌≤◌, ℕ, List, length}
use Rattle.std.proofs.Common.{subst, sym, arith}
use Rattle.std.proofs.lemmas.List.{take_all}
use Rattle.pol_disk.specs.declared.call.DiskCall.{DiskCall}
use Rattle.pol_disk.specs.Record.{IsImage, LeftSince, held}

pub left_now : (calls : List DiskCall) (t : ℕ) (c : List ℕ) → t ≤ length calls → IsImage (held calls) c → LeftSince calls t c
left_now calls t c le image =
    (length calls, le, omega arith, subst (λ (l : List DiskCall). IsImage (held l) c) (sym (take_all (length calls) calls (omega arith))) image)

pub none_later : (calls : List DiskCall) (c : List ℕ) → LeftSince calls (length calls) c → IsImage (held calls) c
none_later calls c (k, ge, le, image) = subst (λ (l : List DiskCall). IsImage (held l) c) (take_all k calls (omega (arith, ge))) image
