-- What calls of a disk in memory leave that fails from a chosen call on.
use Rattle.std.proofs.Common.{◌≡◌, inl, inr, ℕ, suc, ◌+◌, ◌^◌, ◌<◌, Bool, true, false, ◌||◌, nat_le, List, [], ◌∷◌, ◌++◌, length, take, Option, Some, refl, sym, ap, ◌∙◌, arith, append-nil, append_assoc}
use Rattle.std.proofs.lemmas.Bool.Decides.{nat_tests}
use Rattle.pol_streams.specs.Faults.{next_count}
use Rattle.pol_disk.specs.Calls.{Asked, Reads, Writes, Cuts, Syncs, Runs, StopsIn}
use Rattle.pol_disk.specs.Images.{Only}
use Rattle.pol_disk.specs.MemDisk.{DiskState, Does, Fails, done, fails_at, is_barred, is_stopped, is_too_far}
use Rattle.pol_disk.specs.Record.{Held, IsImage, held, held_after, held_from, settled}
use Rattle.pol_disk.specs.declared.call.DiskCall.{DiskCall}
use Rattle.pol_disk.specs.declared.call.DiskCall.TheVariants.{Write, Cut, Sync}
use Rattle.pol_disk.proofs.Calls.{kept_is_image}

-- what the calls put into the record
abbrev pub written : List Asked → List DiskCall
written [] = []
written (Reads at n ∷ calls) = written calls
written (Writes at bytes ∷ calls) = Write at bytes ∷ written calls
written (Cuts len ∷ calls) = Cut len ∷ written calls
written (Syncs ∷ calls) = Sync ∷ written calls

written_both : (call : Asked) (calls : List Asked) → written (call ∷ calls) ≡ written (call ∷ []) ++ written calls
written_both (Reads at n) calls = refl
written_both (Writes at bytes) calls = refl
written_both (Cuts len) calls = refl
written_both Syncs calls = refl

-- ---- one call

done_calls : (call : Asked) (s : DiskState) → (done call s).calls ≡ next_count s.calls
done_calls (Reads at n) s = refl
done_calls (Writes at bytes) s = refl
done_calls (Cuts len) s = refl
done_calls Syncs s = refl

done_from : (call : Asked) (s : DiskState) → (done call s).fails_from ≡ s.fails_from
done_from (Reads at n) s = refl
done_from (Writes at bytes) s = refl
done_from (Cuts len) s = refl
done_from Syncs s = refl

done_past : (call : Asked) (s : DiskState) → (done call s).past ≡ s.past ++ written (call ∷ [])
done_past (Reads at n) s = sym (append-nil s.past)
done_past (Writes at bytes) s = refl
done_past (Cuts len) s = refl
done_past Syncs s = refl

neither : (a b : Bool) → (a || b) ≡ false → a ≡ false
neither true b is = is
neither false b is = refl

not_stopped : (call : Asked) (s : DiskState) → is_barred call s ≡ false → is_stopped s ≡ false
not_stopped (Reads at n) s is = is
not_stopped (Writes at bytes) s is = neither (is_stopped s) (is_too_far at (length bytes)) is
not_stopped (Cuts len) s is = is
not_stopped Syncs s is = is

above : (m n : ℕ) → nat_le m n ≡ false → n < m
above m n told = grind (arith, nat_tests)

-- so many calls were made, all of them below the chosen one
pub record HasMade (n many : ℕ) (s t : DiskState) : Type 0 where
  pub from : t.fails_from ≡ Some n
  pub counted : t.calls ≡ s.calls + many
  pub below : t.calls < n

-- So many calls were made of these, and then one that failed.
pub record HasFailed (calls : List Asked) (s t : DiskState) : Type 0 where
  pub place : ℕ
  pub inside : place < length calls
  pub counted : t.calls ≡ s.calls + place + 1
  pub past : t.past ≡ s.past ++ written (take place calls)

module _ (n : ℕ) (few : n < 2 ^ 64) where
  exact : (c : ℕ) → c < n → next_count c ≡ c + 1
  exact c less = omega arith

  below_it : (s : DiskState) → s.fails_from ≡ Some n → is_stopped s ≡ false → s.calls + 1 < n
  below_it s from is =
      let told : nat_le n (s.calls + 1) ≡ false = ap (λ (f : Option ℕ). fails_at f (s.calls + 1)) (sym from) ∙ is in
      above n (s.calls + 1) told

  made_one : (call : Asked) (s t : DiskState) → s.fails_from ≡ Some n → Does s call t → HasMade n 1 s t
  made_one call s t from does =
      let room = below_it s from (not_stopped call s does.0) in
      let counted : t.calls ≡ s.calls + 1 = ap (λ (d : DiskState). d.calls) does.1 ∙ done_calls call s ∙ exact s.calls (omega (arith, room)) in
      record {
        from = ap (λ (d : DiskState). d.fails_from) does.1 ∙ done_from call s ∙ from;
        counted = counted;
        below = omega (arith, counted, room);
      }

  -- ---- all calls

  pub has_made : (calls : List Asked) (s t : DiskState) → s.fails_from ≡ Some n → s.calls < n → Runs Does Fails s calls t → HasMade n (length calls) s t
  has_made [] s t from less same =
      let counted : t.calls ≡ s.calls = ap (λ (d : DiskState). d.calls) same in
      record {
        from = ap (λ (d : DiskState). d.fails_from) same ∙ from;
        counted = omega (arith, counted);
        below = omega (arith, counted, less);
      }
  has_made (call ∷ calls) s t from less (between, does, later) =
      let first = made_one call s between from does in
      let rest = has_made calls between t first.from first.below later in
      record { from = rest.from; counted = omega (arith, first.counted, rest.counted); below = rest.below }

  -- up to one that failed
  pub has_failed : (calls : List Asked) (s t : DiskState) → s.fails_from ≡ Some n → s.calls < n → StopsIn Does Fails s calls t → HasFailed calls s t
  has_failed [] s t from less stops = absurd stops
  has_failed (call ∷ calls) s t from less (inl here) =
      let counted : t.calls ≡ s.calls + 1 = ap (λ (d : DiskState). d.calls) here ∙ exact s.calls less in
      record {
        place = 0;
        inside = omega arith;
        counted = omega (arith, counted);
        past = ap (λ (d : DiskState). d.past) here ∙ sym (append-nil s.past);
      }
  has_failed (call ∷ calls) s t from less (inr (between, does, later)) =
      let first = made_one call s between from does in
      let rest = has_failed calls between t first.from first.below later in
      let here : between.past ≡ s.past ++ written (call ∷ []) = ap (λ (d : DiskState). d.past) does.1 ∙ done_past call s in
      record {
        place = suc rest.place;
        inside = omega (arith, rest.inside);
        counted = omega (arith, first.counted, rest.counted);
        past =
            rest.past ∙ ap (λ (l : List DiskCall). l ++ written (take rest.place calls)) here
            ∙ append_assoc s.past (written (call ∷ [])) (written (take rest.place calls))
            ∙ ap (λ (l : List DiskCall). s.past ++ l) (sym (written_both call (take rest.place calls)));
      }

-- ---- what is held

held_from_both : (h : Held) (past more : List DiskCall) → held_from h (past ++ more) ≡ held_from (held_from h past) more
held_from_both h [] more = refl
held_from_both h (call ∷ past) more = held_from_both (held_after h call) past more

-- after more calls
pub held_both : (past more : List DiskCall) → held (past ++ more) ≡ held_from (held past) more
held_both past more = held_from_both (settled []) past more

-- where a crash leaves what a read gives and nothing else, that is on the disk
pub synced_too : (past : List DiskCall) (bytes : List ℕ) → Only bytes (IsImage (held past)) → (held past).synced ≡ bytes
synced_too past bytes only = only (held past).synced (kept_is_image past false)
