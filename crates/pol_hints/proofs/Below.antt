-- A round of hints: which slots it has.
use Rattle.std.proofs.Common.{◌≡◌, ℕ, zero, suc, ◌<◌, ◌≤◌, ◌+◌, ◌-◌, ◌⊎◌, List, [], ◌∷◌, ◌++◌, Some, length, slice_get, refl, sym, ap, ◌∙◌, subst, inl, inr, append_assoc, append-nil, arith}
use Rattle.std.specs.List.{AllByRecursion, range_with_len}
use Rattle.std.proofs.lemmas.List.{length-append}
use mathlib.Core.List.{IsPrefix}
use Rattle.pol_hints.specs.History.{hints_put, hints_taken, puts}
use Rattle.circular_buffer.specs.Buffer.{Buffer, buffer}
use Rattle.pol_hints.specs.Queue.{PutsSome}
use Rattle.pol_hints.specs.Passes.{HintsBelow, IsOnly, Pass, PutsRound, one_round}
use Rattle.std.proofs.lemmas.Bool.{cases_lt}
use Rattle.pol_hints.proofs.Beginnings.{begins_further}
use Rattle.pol_hints.proofs.Histories.{put-append, put_puts, taken-append, taken_puts}

-- ---- slots in order

-- so many, and then so many more
pub range-append : (a m n : ℕ) → range_with_len a (m + n) ≡ range_with_len a m ++ range_with_len (a + m) n
range-append a zero n = ap (range_with_len a) (let none : 0 + n ≡ n = omega arith in none) ∙ ap (λ (k : ℕ). range_with_len k n) (let same : a ≡ a + 0 = omega arith in same)
range-append a (suc m) n =
    ap (range_with_len a) (let one : suc m + n ≡ suc (m + n) = omega arith in one)
    ∙ ap (λ l. a ∷ l) (range-append (a + 1) m n ∙ ap (λ (k : ℕ). range_with_len (a + 1) m ++ range_with_len k n) (let same : a + 1 + m ≡ a + suc m = omega arith in same))

-- one more, where it is the next one
pub range_more : (a n j : ℕ) → a + n ≡ j → range_with_len a (n + 1) ≡ range_with_len a n ++ j ∷ []
range_more a n j is = range-append a n 1 ∙ ap (λ (k : ℕ). range_with_len a n ++ k ∷ []) is

-- those up to a place begin those up to a later one
pub range_begins : (a k n : ℕ) → k ≤ n → IsPrefix (range_with_len a k) (range_with_len a n)
range_begins a k n few = (range_with_len (a + k) (n - k), sym (range-append a k (n - k)) ∙ ap (range_with_len a) (let same : k + (n - k) ≡ n = omega arith in same))

length-range : (a n : ℕ) → length (range_with_len a n) ≡ n
length-range a zero = refl
length-range a (suc n) = ap (λ (k : ℕ). suc k) (length-range (a + 1) n)

range_at : (a n k : ℕ) → k < n → slice_get (range_with_len a n) k ≡ Some (a + k)
range_at a zero k less = absurd (omega (arith, less))
range_at a (suc n) zero less = ap Some (let same : a ≡ a + 0 = omega arith in same)
range_at a (suc n) (suc k) less = range_at (a + 1) n k (omega (arith, less)) ∙ ap Some (let same : a + 1 + k ≡ a + suc k = omega arith in same)

get_left : (xs ys : List ℕ) (k x : ℕ) → slice_get xs k ≡ Some x → slice_get (xs ++ ys) k ≡ Some x
get_left [] ys k x is = absurd (let wrong : _ = is in cc)
get_left (y ∷ xs) ys zero x is = is
get_left (y ∷ xs) ys (suc k) x is = get_left xs ys k x is

get_right : (xs ys : List ℕ) (k : ℕ) → slice_get (xs ++ ys) (length xs + k) ≡ slice_get ys k
get_right [] ys k = ap (slice_get ys) (let none : 0 + k ≡ k = omega arith in none)
get_right (y ∷ xs) ys k = ap (slice_get (y ∷ xs ++ ys)) (let one : suc (length xs) + k ≡ suc (length xs + k) = omega arith in one) ∙ get_right xs ys k

-- ---- a round

-- it is as long as there are slots
pub round_length : (first slots : ℕ) → first ≤ slots → length (one_round first slots) ≡ slots
round_length first slots few =
    let both = length-append (range_with_len first (slots - first)) (range_with_len 0 first) in
    let one = length-range first (slots - first) in
    let other = length-range 0 first in
    omega (arith, both, one, other, few)

-- and each slot has a place in it
pub round_reaches : (first slots slot : ℕ) → first ≤ slots → slot < slots → (place : ℕ) × (slice_get (one_round first slots) place ≡ Some slot)
round_reaches first slots slot few less =
    let one = range_with_len first (slots - first) in
    let other = range_with_len 0 first in
    let back : (first ≤ slot) → (place : ℕ) × (slice_get (one ++ other) place ≡ Some slot) =
    λ behind. (slot - first, get_left one other (slot - first) slot (range_at first (slots - first) (slot - first) (omega (arith, behind, less)) ∙ ap Some (let same : first + (slot - first) ≡ slot = omega (arith, behind) in same)))
    in
    let front : (slot < first) → (place : ℕ) × (slice_get (one ++ other) place ≡ Some slot) =
    λ before. (length one + slot, get_right one other slot ∙ range_at 0 first slot before ∙ ap Some (let none : 0 + slot ≡ slot = omega arith in none))
    in
    elim (cases_lt slot first) [
      | inl before ↦ front before
      | inr behind ↦ back behind
    ]

-- ---- hints that were put

-- one more behind those up to here
pub one_more : (first now new : Buffer ℕ) (from slot : ℕ) → from ≤ slot → new ≡ buffer (now.items ++ slot ∷ []) now.capacity → now.items ≡ first.items ++ range_with_len from (slot - from)
    → new.items ≡ first.items ++ range_with_len from (slot + 1 - from)
one_more first now new from slot within is put =
    let more : range_with_len from (slot - from) ++ slot ∷ [] ≡ range_with_len from (slot + 1 - from) =
    sym (range_more from (slot - from) slot (omega (arith, within))) ∙ ap (range_with_len from) (let same : slot - from + 1 ≡ slot + 1 - from = omega (arith, within) in same)
    in
    ap (λ (b : Buffer ℕ). b.items) is ∙ ap (λ (l : List ℕ). l ++ slot ∷ []) put ∙ append_assoc first.items (range_with_len from (slot - from)) (slot ∷ []) ∙ ap (λ (l : List ℕ). first.items ++ l) more

module _ (old new : Buffer ℕ) (from n : ℕ) where
  -- all of them
  pub put_all_of : new.items ≡ old.items ++ range_with_len from n → new.capacity ≡ old.capacity → PutsSome (range_with_len from n) old new
  put_all_of items room = record { put = range_with_len from n; begun = ([], append-nil (range_with_len from n)); items = items; capacity = room; all = inl refl }

  -- those up to a place, where there was no room for more
  pub put_some_of : (k : ℕ) → k ≤ n → new.items ≡ old.items ++ range_with_len from k → new.capacity ≡ old.capacity → length new.items ≡ new.capacity → PutsSome (range_with_len from n) old new
  put_some_of k few items room full = record { put = range_with_len from k; begun = range_begins from k n few; items = items; capacity = room; all = inr full }

-- where there is no room for one more
pub full_here : (b : Buffer ℕ) → (length b.items < b.capacity → ⊥) → length b.items ≤ b.capacity → length b.items ≡ b.capacity
full_here b none within =
    elim (cases_lt (length b.items) b.capacity) [
      | inl less ↦ absurd (none less)
      | inr more ↦ omega (arith, more, within)
    ]

-- one list behind another
pub put_behind : (xs ys : List ℕ) (old between new : Buffer ℕ) → between.items ≡ old.items ++ xs → between.capacity ≡ old.capacity → PutsSome ys between new → PutsSome (xs ++ ys) old new
put_behind xs ys old between new first room it = record {
  put = xs ++ it.put;
  begun = (it.begun.0, append_assoc xs it.put it.begun.0 ∙ ap (λ (l : List ℕ). xs ++ l) it.begun.1);
  items = it.items ∙ ap (λ (l : List ℕ). l ++ it.put) first ∙ append_assoc old.items xs it.put;
  capacity = it.capacity ∙ room;
  all = either_of it.all;
} where
  either_of : ((it.put ≡ ys) ⊎ (length new.items ≡ new.capacity)) → (xs ++ it.put ≡ xs ++ ys) ⊎ (length new.items ≡ new.capacity)
  either_of (inl same) = inl (ap (λ (l : List ℕ). xs ++ l) same)
  either_of (inr full) = inr full

-- the first of two lists wasn't put whole
pub put_first : (xs ys : List ℕ) (old new : Buffer ℕ) → PutsSome xs old new → length new.items ≡ new.capacity → PutsSome (xs ++ ys) old new
put_first xs ys old new it full = record {
  put = it.put;
  begun = (it.begun.0 ++ ys, sym (append_assoc it.put it.begun.0 ys) ∙ ap (λ (l : List ℕ). l ++ ys) it.begun.1);
  items = it.items;
  capacity = it.capacity;
  all = inr full;
}

-- ---- hints of slots below a number

all_both : (slots : ℕ) (xs ys : List ℕ) → AllByRecursion (λ slot. slot < slots) xs → AllByRecursion (λ slot. slot < slots) ys → AllByRecursion (λ slot. slot < slots) (xs ++ ys)
all_both slots [] ys it next = next
all_both slots (x ∷ xs) ys it next = (it.0, all_both slots xs ys it.1 next)

all_range : (slots a n : ℕ) → a + n ≤ slots → AllByRecursion (λ slot. slot < slots) (range_with_len a n)
all_range slots a zero few = tt
all_range slots a (suc n) few = (omega (arith, few), all_range slots (a + 1) n (omega (arith, few)))

all_begun : (slots : ℕ) (xs rest : List ℕ) → AllByRecursion (λ slot. slot < slots) (xs ++ rest) → AllByRecursion (λ slot. slot < slots) xs
all_begun slots [] rest it = tt
all_begun slots (x ∷ xs) rest it = (it.0, all_begun slots xs rest it.1)

module _ (room slots : ℕ) (before after : Pass) (it : PutsRound room slots before after) where
  pub round_goes_on : IsPrefix before.seen after.seen
  round_goes_on = begins_further before.seen it.so_far after.seen it.past (puts it.put, sym it.last)

  pub round_below : IsOnly before → HintsBelow slots before after
  round_below only =
      let whole = all_both slots (range_with_len it.first (slots - it.first)) (range_with_len 0 it.first)
      (all_range slots it.first (slots - it.first) (let few = it.within in omega (arith, few))) (all_range slots 0 it.first (let few = it.within in omega (arith, few)))
      in
      let same = it.last ∙ ap (λ h. h ++ puts it.put) (it.only only) in
      record {
        put = it.put;
        below = all_begun slots it.put it.begun.0 (subst (AllByRecursion (λ slot. slot < slots)) (sym it.begun.1) whole);
        puts = ap hints_put same ∙ put-append before.seen (puts it.put) ∙ ap (λ (l : List ℕ). hints_put before.seen ++ l) (put_puts it.put);
        takes_none = ap hints_taken same ∙ taken-append before.seen (puts it.put) ∙ ap (λ (l : List ℕ). hints_taken before.seen ++ l) (taken_puts it.put) ∙ append-nil (hints_taken before.seen);
      }
