-- How a run of calls of a disk goes on.
use Rattle.std.proofs.Common.{inl, inr, ⊎_elim, ℕ, List, sym, subst, arith}
use Rattle.pol_disk.specs.Images.{Elapses, Follows, LeavesOnly, Only}

module _ {D : Type 0} (moment : D → ℕ) (left_since : D → ℕ → List ℕ → Type 0) where
  -- before the first call
  pub started : (old : D) (P : List ℕ → Type 0) → ((c : List ℕ) → left_since old (moment old) c → P c) → LeavesOnly moment left_since old old P
  started old P here = record { later = omega arith; each = here; before = λ t c le left. inl left }

  -- one call more, after which a crash leaves what has P
  pub goes_on : (old mid new : D) (P may_leave : List ℕ → Type 0) → LeavesOnly moment left_since old mid P → Elapses (moment mid) (moment new) (left_since mid) (left_since new) may_leave
      → ((c : List ℕ) → may_leave c → P c) → LeavesOnly moment left_since old new P
  goes_on old mid new P may_leave so_far time here = record {
    later = omega (arith, so_far.later, time.later);
    each = λ c left. ⊎_elim (so_far.each c) (here c) (time.nothing_else (moment old) c so_far.later left);
    before = λ t c le left. ⊎_elim (so_far.before t c le) (λ now. inr (here c now)) (time.nothing_else t c (omega (arith, le, so_far.later)) left);
  }

  -- a part of the calls, and then the others
  pub joined : (old mid new : D) (P : List ℕ → Type 0) → LeavesOnly moment left_since old mid P → LeavesOnly moment left_since mid new P → LeavesOnly moment left_since old new P
  joined old mid new P first second = record {
    later = omega (arith, first.later, second.later);
    each = λ c left. ⊎_elim (first.each c) (λ now. now) (second.before (moment old) c first.later left);
    before = λ t c le left. ⊎_elim (first.before t c le) (λ now. inr now) (second.before t c (omega (arith, le, first.later)) left);
  }

  -- what has P has Q
  pub widened : (old new : D) (P Q : List ℕ → Type 0) → LeavesOnly moment left_since old new P → ((c : List ℕ) → P c → Q c) → LeavesOnly moment left_since old new Q
  widened old new P Q leaves more = record {
    later = leaves.later;
    each = λ c left. more c (leaves.each c left);
    before = λ t c le left. ⊎_elim (λ past. inl past) (λ has. inr (more c has)) (leaves.before t c le left);
  }

  -- ---- a call, and the sync behind it

  -- it changes bytes of which all are on the disk
  pub change_leaves : (step : List ℕ → List ℕ → Type 0) (bytes : List ℕ) (old new : List ℕ → Type 0) → Only bytes old → Follows step old new → (c : List ℕ) → new c → step bytes c
  change_leaves step bytes old new only follows c now =
      let from = follows c now in
      subst (λ (d : List ℕ). step d c) (only from.0 from.1) from.2

  pub changes : (may_leave : D → List ℕ → Type 0) (step : List ℕ → List ℕ → Type 0) (bytes : List ℕ) (old new : D) → ((c : List ℕ) → left_since old (moment old) c → may_leave old c)
      → step bytes bytes → Only bytes (may_leave old) → Follows step (may_leave old) (may_leave new)
      → Elapses (moment old) (moment new) (left_since old) (left_since new) (may_leave new) → LeavesOnly moment left_since old new (step bytes)
  changes may_leave step bytes old new only_now stays only follows time =
      goes_on old old new (step bytes) (may_leave new)
      (started old (step bytes) (λ c left. subst (step bytes) (sym (only c (only_now c left))) stays))
      time (change_leaves step bytes (may_leave old) (may_leave new) only follows)
