-- What the disk in memory keeps, call by call.
use Rattle.std.proofs.Common.{◌≡◌, ℕ, ◌+◌, ◌≤◌, min, Bool, true, false, if◌then◌else◌, List, [], ◌∷◌, ◌++◌, length, take, drop, refl, sym, ◌∙◌, ap, subst, arith, length-append}
use Rattle.std.proofs.lemmas.List.{take-take, take-append-le, length-take-le}
use Rattle.pol_disk.specs.declared.call.DiskCall.{DiskCall}
use Rattle.pol_disk.specs.declared.call.DiskCall.TheVariants.{Write, Cut, Sync, Crash}
use Rattle.pol_disk.specs.Images.{overwritten}
use Rattle.pol_disk.specs.Kept.{Keeps}
use Rattle.pol_disk.specs.Record.{Held, IsSettled, held, kept_bytes}
use Rattle.pol_disk.proofs.Calls.{held-more, length-overwritten, sync_settles, crash_settles}

take_less : (m n : ℕ) (xs ys : List ℕ) → m ≤ n → take n xs ≡ take n ys → take m xs ≡ take m ys
take_less m n xs ys le same = sym (take-take m n xs le) ∙ ap (take m) same ∙ take-take m n ys le

module _ (past : List DiskCall) (bytes synced : List ℕ) (alike : ℕ) (dirty : Bool) (keeps : Keeps past bytes synced alike dirty) where
  pub keeps_write : (at : ℕ) (new : List ℕ) → at ≤ length bytes → Keeps (past ++ Write at new ∷ []) (overwritten bytes at new) synced (min alike at) true
  keeps_write at new le =
      let now = held-more past (Write at new) in
      let front = length-take-le at bytes le in
      let rest = drop (at + length new) bytes in
      record {
        bytes_are = ap (λ (b : List ℕ). overwritten b at new) keeps.bytes_are ∙ sym (ap (λ (h : Held). h.bytes) now);
        synced_are = keeps.synced_are ∙ sym (ap (λ (h : Held). h.synced) now);
        in_bytes = omega (arith, length-overwritten bytes at new le);
        in_synced = omega (arith, keeps.in_synced);
        alike_below = take-append-le (min alike at) (take at bytes ++ new) rest (omega (arith, front, length-append (take at bytes) new))
            ∙ take-append-le (min alike at) (take at bytes) new (omega (arith, front))
            ∙ take-take (min alike at) at bytes (omega arith) ∙ take_less (min alike at) alike bytes synced (omega arith) keeps.alike_below;
        calm = λ no. absurd (cc);
      }

  pub keeps_cut : (len : ℕ) → len ≤ length bytes → Keeps (past ++ Cut len ∷ []) (take len bytes) synced (min alike len) true
  keeps_cut len le =
      let now = held-more past (Cut len) in
      record {
        bytes_are = ap (take len) keeps.bytes_are ∙ sym (ap (λ (h : Held). h.bytes) now);
        synced_are = keeps.synced_are ∙ sym (ap (λ (h : Held). h.synced) now);
        in_bytes = omega (arith, length-take-le len bytes le);
        in_synced = omega (arith, keeps.in_synced);
        alike_below = take-take (min alike len) len bytes (omega arith) ∙ take_less (min alike len) alike bytes synced (omega arith) keeps.alike_below;
        calm = λ no. absurd (cc);
      }

  pub keeps_sync : Keeps (past ++ Sync ∷ []) bytes bytes (length bytes) false
  keeps_sync =
      let settled = subst (λ (b : List ℕ). IsSettled b (past ++ Sync ∷ [])) (sym keeps.bytes_are) (sync_settles past) in
      record { bytes_are = sym settled.read; synced_are = sym settled.synced; in_bytes = omega arith; in_synced = omega arith; alike_below = refl; calm = λ no. settled }

  -- the bytes that stay
  pub kept_items : (keep : Bool) → (if keep then bytes else synced) ≡ kept_bytes keep (held past)
  kept_items true = keeps.bytes_are
  kept_items false = keeps.synced_are

-- the bytes that a crash leaves are the only ones
pub keeps_crash : (past : List DiskCall) (keep : Bool) (bytes : List ℕ) → bytes ≡ kept_bytes keep (held past) → Keeps (past ++ Crash keep ∷ []) bytes bytes (length bytes) false
keeps_crash past keep bytes is =
    let settled = subst (λ (b : List ℕ). IsSettled b (past ++ Crash keep ∷ [])) (sym is) (crash_settles past keep) in
    record { bytes_are = sym settled.read; synced_are = sym settled.synced; in_bytes = omega arith; in_synced = omega arith; alike_below = refl; calm = λ no. settled }
