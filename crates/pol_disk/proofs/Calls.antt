-- What one call more does to what a record says.
use Rattle.std.proofs.Common.{◌≡◌, ◌⊎◌, inl, inr, ⊎_elim, ℕ, ◌+◌, ◌-◌, ◌≤◌, Bool, true, false, List, [], ◌∷◌, ◌++◌, length, take, drop, refl, sym, ◌∙◌, ap, subst, arith, length-append}
use Rattle.std.proofs.lemmas.List.{take_all, take_at, take-append-le, drop_at, length-take-le, length-drop}
use Rattle.std.proofs.lemmas.Bool.{cases_lt}
use Rattle.pol_disk.specs.declared.call.DiskCall.{DiskCall}
use Rattle.pol_disk.specs.declared.call.DiskCall.TheVariants.{Write, Cut, Sync, Crash}
use Rattle.pol_disk.specs.Images.{CutShort, Elapses, Follows, Torn, overwritten}
use Rattle.pol_disk.specs.Record.{Held, IsImage, IsSettled, LeftSince, held, held_after, held_from, kept_bytes, settled}

held_from-more : (h : Held) (past : List DiskCall) (call : DiskCall) → held_from h (past ++ call ∷ []) ≡ held_after (held_from h past) call
held_from-more h [] call = refl
held_from-more h (first ∷ past) call = held_from-more (held_after h first) past call

pub held-more : (past : List DiskCall) (call : DiskCall) → held (past ++ call ∷ []) ≡ held_after (held past) call
held-more past call = held_from-more (settled []) past call

-- ---- moments

pub no_time : (past : List DiskCall) (P : List ℕ → Type 0) → Elapses (length past) (length past) (LeftSince past) (LeftSince past) P
no_time past P = record { later = omega arith; nothing_else = λ t c le left. inl left; keeps = λ t c le left. left }

pub one_moment : (past : List DiskCall) (call : DiskCall)
    → Elapses (length past) (length (past ++ call ∷ [])) (LeftSince past) (LeftSince (past ++ call ∷ [])) (IsImage (held (past ++ call ∷ [])))
one_moment past call = record {
  later = omega (arith, more);
  nothing_else = λ t c le left. told t c left;
  keeps = λ t c le left. (left.0, left.1, omega (arith, more, left.2), subst (λ (l : List DiskCall). IsImage (held l) c) (sym (take-append-le left.0 past (call ∷ []) left.2)) left.3);
}
  where
    more : length (past ++ call ∷ []) ≡ length past + 1
    more = length-append past (call ∷ [])

    told : (t : ℕ) (c : List ℕ) → LeftSince (past ++ call ∷ []) t c → LeftSince past t c ⊎ IsImage (held (past ++ call ∷ [])) c
    told t c (k, ge, le, image) = elim (cases_lt k (length past + 1)) [
      | inl early ↦ inl (k, ge, omega arith, subst (λ (l : List DiskCall). IsImage (held l) c) (take-append-le k past (call ∷ []) (omega arith)) image)
      | inr late ↦ inr (subst (λ (l : List DiskCall). IsImage (held l) c) (take_all k (past ++ call ∷ []) (omega (arith, more))) image)
    ]

-- ---- images

-- ---- lengths

front_of : (old : List ℕ) (at : ℕ) (bytes : List ℕ) → at ≤ length old → length (take at old ++ bytes) ≡ at + length bytes
front_of old at bytes le = length-append (take at old) bytes ∙ omega (arith, length-take-le at old le)

pub length-overwritten : (old : List ℕ) (at : ℕ) (bytes : List ℕ) → at ≤ length old
    → length (overwritten old at bytes) ≡ at + length bytes + (length old - (at + length bytes))
length-overwritten old at bytes le =
    length-append (take at old ++ bytes) (drop (at + length bytes) old) ∙ omega (arith, front_of old at bytes le, length-drop (at + length bytes) old)

-- the bytes that were written are one of the torn ones
written_is_torn : (old : List ℕ) (at : ℕ) (bytes : List ℕ) → at ≤ length old → Torn at (length bytes) old (overwritten old at bytes)
written_is_torn old at bytes le =
    let front = front_of old at bytes le in
    let rest = drop (at + length bytes) old in
    let size = length-overwritten old at bytes le in
    record {
      before = take-append-le at (take at old ++ bytes) rest (omega (arith, front)) ∙ take_at (take at old) bytes at (length-take-le at old le);
      after = drop_at (take at old ++ bytes) rest (at + length bytes) front;
      no_shorter = omega (arith, size);
      no_longer = omega (arith, size);
    }

pub write_follows : (past : List DiskCall) (at : ℕ) (bytes : List ℕ) → at ≤ length (held past).bytes
    → Follows (Torn at (length bytes)) (IsImage (held past)) (IsImage (held (past ++ Write at bytes ∷ [])))
write_follows past at bytes le c image = told (subst (λ (h : Held). IsImage h c) (held-more past (Write at bytes)) image)
  where
    told : IsImage (held_after (held past) (Write at bytes)) c → (d : List ℕ) × IsImage (held past) d × Torn at (length bytes) d c
    told (inl whole) = ((held past).bytes, inl refl, subst (Torn at (length bytes) (held past).bytes) (sym whole) (written_is_torn (held past).bytes at bytes le))
    told (inr (d, before, torn)) = (d, inr before, torn)

pub cut_follows : (past : List DiskCall) (len : ℕ) → Follows (CutShort len) (IsImage (held past)) (IsImage (held (past ++ Cut len ∷ [])))
cut_follows past len c image = told (subst (λ (h : Held). IsImage h c) (held-more past (Cut len)) image)
  where
    told : IsImage (held_after (held past) (Cut len)) c → (d : List ℕ) × IsImage (held past) d × CutShort len d c
    told (inl whole) = ((held past).bytes, inl refl, inr whole)
    told (inr (d, before, short)) = (d, inr before, short)

pub same_follow : (P : List ℕ → Type 0) (step : List ℕ → List ℕ → Type 0) → ((c : List ℕ) → step c c) → Follows step P P
same_follow P step stays c image = (c, image, stays c)

pub torn_nothing : (at n : ℕ) (c : List ℕ) → Torn at n c c
torn_nothing at n c = record { before = refl; after = refl; no_shorter = omega arith; no_longer = omega arith }

pub cut_nothing : (len : ℕ) (c : List ℕ) → CutShort len c c
cut_nothing len c = inl refl

-- after this all is on the disk
settles : (past : List DiskCall) (call : DiskCall) (bytes : List ℕ) → held_after (held past) call ≡ settled bytes → IsSettled bytes (past ++ call ∷ [])
settles past call bytes is =
    let now : held (past ++ call ∷ []) ≡ settled bytes = held-more past call ∙ is in
    record {
      read = ap (λ (h : Held). h.bytes) now;
      synced = ap (λ (h : Held). h.synced) now;
      only = λ c image. ⊎_elim (λ e. e ∙ ap (λ (h : Held). h.bytes) now) (λ t. only c (subst (λ (h : Held). h.torn c) now t)) image;
    }
  where
    only : (c : List ℕ) → (settled bytes).torn c → c ≡ bytes
    only c t = t

pub sync_settles : (past : List DiskCall) → IsSettled (held past).bytes (past ++ Sync ∷ [])
sync_settles past = settles past Sync (held past).bytes refl

pub crash_settles : (past : List DiskCall) (keep : Bool) → IsSettled (kept_bytes keep (held past)) (past ++ Crash keep ∷ [])
crash_settles past keep = settles past (Crash keep) (kept_bytes keep (held past)) refl

pub sync_leaves : (past : List DiskCall) (c : List ℕ) → IsImage (held (past ++ Sync ∷ [])) c → IsImage (held past) c
sync_leaves past c image = inl ((sync_settles past).only c image)

-- what the last sync put on the disk may be left: each call since then may be lost
lost_from : (h : Held) (past : List DiskCall) → h.torn h.synced → (held_from h past).torn (held_from h past).synced
lost_from h [] here = here
lost_from h (Write at bytes ∷ past) here = lost_from (held_after h (Write at bytes)) past (h.synced, here, torn_nothing at (length bytes) h.synced)
lost_from h (Cut len ∷ past) here = lost_from (held_after h (Cut len)) past (h.synced, here, cut_nothing len h.synced)
lost_from h (Sync ∷ past) here = lost_from (held_after h Sync) past refl
lost_from h (Crash keep ∷ past) here = lost_from (held_after h (Crash keep)) past refl

pub kept_is_image : (past : List DiskCall) (keep : Bool) → IsImage (held past) (kept_bytes keep (held past))
kept_is_image past true = inl refl
kept_is_image past false = inr (lost_from (settled []) past refl)
