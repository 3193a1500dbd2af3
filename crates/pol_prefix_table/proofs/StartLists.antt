-- The list of starts, written and kept.
use Rattle.std.proofs.Common.{◌≡◌, ◌≢◌, ℕ, zero, suc, ◌+◌, ◌-◌, ◌*◌, ◌^◌, ◌<◌, ◌≤◌, true, false, List, [], ◌∷◌, ◌++◌, length, slice_get, slice_set, slice_index_or, Option, Some, refl, sym, ap, subst, ◌∙◌, ◌⊎◌, inl, inr, arith}
use Rattle.std.proofs.lemmas.Option.{none-some, same_Some, slice_get-get_or, slice_get_within, get_or_from_slice_get}
use Rattle.std.proofs.lemmas.Bool.{both_ways, cases_lt, false_from_ne_true}
use Rattle.std.proofs.lemmas.Nat.{mul-le}
use Rattle.std.specs.List.Sorted.{IsNonDecreasingBy, IsPartitionPoint}
use Rattle.slab.specs.Slab.{Slab, get}
use Rattle.pol_addr.specs.declared.family.Family.{Family}
use Rattle.pol_addr.specs.Families.{width}
use Rattle.pol_addr.specs.Address.{addr_in, bits_of, family_of}
use Rattle.pol_addr.specs.Cidr.{cleared}
use Rattle.pol_addr.specs.declared.network.Prefix.{Prefix}
use Rattle.pol_addr.specs.Prefix.{covers}
use Rattle.pol_addr.proofs.ByFamily.{bits_of-addr_in, family_of-addr_in, family_of-cleared, cleared-cleared, cleared_le, cleared_mono, same_from_bits}
use Rattle.pol_addr.proofs.Containment.{covers_trans, covers-parts, covers_from}
use Rattle.pol_addr.proofs.Halves.{covers_len}
use Rattle.pol_prefix_table.specs.declared.node.PrefixNode.{PrefixNode}
use Rattle.pol_prefix_table.specs.declared.walk.Reached.{Reached}
use Rattle.pol_prefix_table.specs.declared.starts.TheConstants.{START_BITS}
use Rattle.pol_prefix_table.specs.Starts.{HasReached, AreInOrder, AreStarts, AreStartsOutside, beginning}
use Rattle.pol_prefix_table.specs.Trie.{IsTree, IsTrie, Numbers, SameNumbers, AllStillThere, StillThereOutside, number_of}
use Rattle.pol_addr.proofs.Order.{not_tied}
use Rattle.std.proofs.Common.{cond}
use Rattle.pol_prefix_table.proofs.Maps.{numbers_room}
use Rattle.pol_prefix_table.proofs.Reached.{reached_kept}

-- what stands at a place after a write, and after a push
pub place_written : {X : Type 0} (xs : List X) (i j : ℕ) (x y : X) → slice_get (slice_set xs i x) j ≡ Some y → ((j ≡ i) × (y ≡ x)) ⊎ ((j ≢ i) × (slice_get xs j ≡ Some y))
place_written [] i j x y is = absurd (none-some y is)
place_written (z ∷ xs) zero zero x y is = inl (refl, sym (same_Some x y is))
place_written (z ∷ xs) zero (suc j) x y is = inr (λ same. omega (arith, same), is)
place_written (z ∷ xs) (suc i) zero x y is = inr (λ same. omega (arith, same), is)
place_written (z ∷ xs) (suc i) (suc j) x y is =
    elim (place_written xs i j x y is) [
      | inl this ↦ inl (ap suc this.0, this.1)
      | inr other ↦ inr (λ same. other.0 (omega (arith, same)), other.1)
    ]

pub length_written : {X : Type 0} (xs : List X) (i : ℕ) (x : X) → length (slice_set xs i x) ≡ length xs
length_written [] i x = refl
length_written (z ∷ xs) zero x = refl
length_written (z ∷ xs) (suc i) x = ap suc (length_written xs i x)

pub place_pushed : {X : Type 0} (xs : List X) (j : ℕ) (x y : X) → slice_get (xs ++ x ∷ []) j ≡ Some y → ((j ≡ length xs) × (y ≡ x)) ⊎ (slice_get xs j ≡ Some y)
place_pushed [] zero x y is = inl (refl, sym (same_Some x y is))
place_pushed [] (suc j) x y is = absurd (none-some y is)
place_pushed (z ∷ xs) zero x y is = inr is
place_pushed (z ∷ xs) (suc j) x y is =
    elim (place_pushed xs j x y is) [
      | inl last ↦ inl (ap suc last.0, last.1)
      | inr was ↦ inr was
    ]

pub length_pushed : {X : Type 0} (xs : List X) (x : X) → length (xs ++ x ∷ []) ≡ length xs + 1
length_pushed [] x = refl
length_pushed (z ∷ xs) x = omega (arith, length_pushed xs x)

-- ---- one start more
pub starts_pushed : (family : Family) (s : Slab PrefixNode) (len : ℕ) (xs : List Reached) (x : Reached)
    → ((i : ℕ) (r : Reached) → slice_get xs i ≡ Some r → HasReached s r × (r.to ≡ beginning family len i)) → HasReached s x → x.to ≡ beginning family len (length xs)
    → (i : ℕ) (r : Reached) → slice_get (xs ++ x ∷ []) i ≡ Some r → HasReached s r × (r.to ≡ beginning family len i)
starts_pushed family s len xs x each reached to i r is =
    elim (place_pushed xs i x r is) [
      | inl last ↦ (subst (HasReached s) (sym last.1) reached, ap (λ y. y.to) last.1 ∙ to ∙ ap (beginning family len) (sym last.0))
      | inr was ↦ each i r was
    ]

-- ---- the order of starts
pub family_of-beginning : (family : Family) (len i : ℕ) → family_of (beginning family len i).addr ≡ family
family_of-beginning family len i = family_of-cleared len (addr_in family (i * 2 ^ (width family - len))) ∙ family_of-addr_in family (i * 2 ^ (width family - len))

beginning_rises : (family : Family) (len i j : ℕ) → i ≤ j → bits_of (beginning family len i).addr ≤ bits_of (beginning family len j).addr
beginning_rises family len i j le =
    let unit = 2 ^ (width family - len) in
    let a = addr_in family (i * unit) in
    let b = addr_in family (j * unit) in
    let rises : i * unit ≤ j * unit = mul-le i unit j unit le (omega arith) in
    cleared_mono len a b (family_of-addr_in family (i * unit) ∙ sym (family_of-addr_in family (j * unit))) (omega (arith, rises, bits_of-addr_in family (i * unit), bits_of-addr_in family (j * unit)))

pub starts_rise : {family : Family} {IsSo : Reached → Type 0} (xs : List Reached) → AreInOrder family IsSo xs → IsNonDecreasingBy (λ r. bits_of r.to.addr) xs
starts_rise {family} xs are i j d le within =
    let p = (are.each i (slice_index_or xs i d) (slice_get-get_or xs i d (omega (arith, le, within)))).1 in
    let q = (are.each j (slice_index_or xs j d) (slice_get-get_or xs j d within)).1 in
    omega (arith, ap (λ p. bits_of p.addr) p, ap (λ p. bits_of p.addr) q, beginning_rises family are.len i j le)

-- a prefix covers none that begins before it
pub none_before : (over p : Prefix) → bits_of p.addr < bits_of over.addr → covers over p ≡ false
none_before over p below =
    false_from_ne_true _ (λ covered. omega (arith, below, cleared_le over.len p.addr, ap bits_of (covers-parts over p covered).1))

-- where a prefix doesn't cover one from its own address on, it covers none of that length behind
none_behind : (over p q : Prefix) → p.len ≡ q.len → family_of p.addr ≡ family_of q.addr → bits_of over.addr ≤ bits_of p.addr → bits_of p.addr ≤ bits_of q.addr → covers over p ≡ false → covers over q ≡ false
none_behind over p q len family from rises none =
    false_from_ne_true _ (λ covered.
    let (short, first) = covers-parts over q covered in
    let own : cleared over.len over.addr ≡ over.addr = ap (cleared over.len) (sym first) ∙ cleared-cleared over.len over.len q.addr (omega arith) ∙ first in
    let of_family : family_of over.addr ≡ family_of q.addr = ap family_of (sym first) ∙ family_of-cleared over.len q.addr in
    let low = cleared_mono over.len over.addr p.addr (of_family ∙ sym family) from in
    let high = cleared_mono over.len p.addr q.addr family rises in
    let same : bits_of (cleared over.len p.addr) ≡ bits_of over.addr = omega (arith, low, high, ap bits_of own, ap bits_of first) in
    let begins : cleared over.len p.addr ≡ over.addr = same_from_bits _ _ (family_of-cleared over.len p.addr ∙ family ∙ sym of_family) same in
    both_ways _ none (covers_from over p (omega (arith, short, len)) begins))

start_behind : {family : Family} {IsSo : Reached → Type 0} (over : Prefix) (xs : List Reached) → AreInOrder family IsSo xs → (i j : ℕ) (r q : Reached) → i ≤ j → slice_get xs i ≡ Some r → slice_get xs j ≡ Some q → bits_of over.addr ≤ bits_of r.to.addr → covers over r.to ≡ false → covers over q.to ≡ false
start_behind {family} over xs are i j r q le is is' from none =
    let a = (are.each i r is).1 in
    let b = (are.each j q is').1 in
    none_behind over r.to q.to
    (ap (λ p. p.len) a ∙ sym (ap (λ p. p.len) b))
    (ap (λ p. family_of p.addr) a ∙ family_of-beginning family are.len i ∙ sym (ap (λ p. family_of p.addr) b ∙ family_of-beginning family are.len j))
    from
    (omega (arith, ap (λ p. bits_of p.addr) a, ap (λ p. bits_of p.addr) b, beginning_rises family are.len i j le))
    none

-- what follows of each start, from what was so of it
each_start : {family : Family} {IsSo IsToo : Reached → Type 0} (xs : List Reached) → AreInOrder family IsSo xs → ((i : ℕ) (r : Reached) → slice_get xs i ≡ Some r → r.to.len ≤ START_BITS → IsSo r → IsToo r) → AreInOrder family IsToo xs
each_start xs are so = record {
  len = are.len;
  short = are.short;
  each = λ i r is. let (was, to) = are.each i r is in (so i r is (omega (arith, ap (λ p. p.len) to, are.short)) was, to);
}

-- ---- one start written, of those before and behind
pub done_written : (s : Slab PrefixNode) (xs : List Reached) (i : ℕ) (x : Reached) → HasReached s x → ((j : ℕ) (r : Reached) → j < i → slice_get xs j ≡ Some r → HasReached s r) → (j : ℕ) (r : Reached) → j < i + 1 → slice_get (slice_set xs i x) j ≡ Some r → HasReached s r
done_written s xs i x reached done j r before is =
    elim (place_written xs i j x r is) [
      | inl this ↦ subst (HasReached s) (sym this.1) reached
      | inr other ↦ done j r (omega (arith, before, other.0)) other.1
    ]

pub outside_written : (family : Family) (s : Slab PrefixNode) (over : Prefix) (xs : List Reached) (i : ℕ) (old x : Reached) → AreStartsOutside family s over xs → slice_get xs i ≡ Some old → x.to ≡ old.to → HasReached s x → AreStartsOutside family s over (slice_set xs i x)
outside_written family s over xs i old x are was to reached = record {
  len = are.len;
  short = are.short;
  each = λ j r is.
      elim (place_written xs i j x r is) [
        | inl this ↦ (λ _. subst (HasReached s) (sym this.1) reached, ap (λ y. y.to) this.1 ∙ to ∙ (are.each i old was).1 ∙ ap (beginning family are.len) (sym this.0))
        | inr other ↦ are.each j r other.1
      ];
}

pub behind_written : (from : ℕ) (xs : List Reached) (i : ℕ) (x : Reached) → ((j : ℕ) (r : Reached) → i ≤ j → slice_get xs j ≡ Some r → from ≤ bits_of r.to.addr) → (j : ℕ) (r : Reached) → i + 1 ≤ j → slice_get (slice_set xs i x) j ≡ Some r → from ≤ bits_of r.to.addr
behind_written from xs i x behind j r le is =
    elim (place_written xs i j x r is) [
      | inl this ↦ absurd (omega (arith, this.0, le))
      | inr other ↦ behind j r (omega (arith, le)) other.1
    ]

-- ---- those below the first that doesn't begin before the prefix, and those from it on
pub first_done : (family : Family) (s : Slab PrefixNode) (over : Prefix) (bound : ℕ) → bound ≡ bits_of over.addr → (xs : List Reached) (first : ℕ)
    → IsPartitionPoint (λ r. bits_of r.to.addr < bound) (λ r. bound ≤ bits_of r.to.addr) xs first → AreStartsOutside family s over xs
    → (j : ℕ) (r : Reached) → j < first → slice_get xs j ≡ Some r → HasReached s r
first_done family s over bound same xs first point are j r before is =
    let read = get_or_from_slice_get xs j r r is in
    let below = subst (λ y. bits_of y.to.addr < bound) read (point.0 j r (omega arith) before) in
    (are.each j r is).0 (none_before over r.to (omega (arith, below, same)))

pub first_behind : (over : Prefix) (bound : ℕ) → bound ≡ bits_of over.addr → (xs : List Reached) (first : ℕ)
    → IsPartitionPoint (λ r. bits_of r.to.addr < bound) (λ r. bound ≤ bits_of r.to.addr) xs first
    → (j : ℕ) (r : Reached) → first ≤ j → slice_get xs j ≡ Some r → bits_of over.addr ≤ bits_of r.to.addr
first_behind over bound same xs first point j r le is =
    let read = get_or_from_slice_get xs j r r is in
    let from = subst (λ y. bound ≤ bits_of y.to.addr) read (point.1 j r le (slice_get_within xs j r is)) in
    omega (arith, from, same)

-- ---- the first that isn't covered, where all before were made once more
pub rest_outside : (family : Family) (s : Slab PrefixNode) (over : Prefix) (xs : List Reached) (i : ℕ) (old x : Reached) → AreStartsOutside family s over xs → slice_get xs i ≡ Some old → x.to ≡ old.to → HasReached s x
    → ((j : ℕ) (r : Reached) → j < i → slice_get xs j ≡ Some r → HasReached s r) → bits_of over.addr ≤ bits_of old.to.addr → covers over old.to ≡ false → AreStarts family s (slice_set xs i x)
rest_outside family s over xs i old x are was to reached done from none =
    each_start (slice_set xs i x) (outside_written family s over xs i old x are was to reached) (λ j r is few outside.
    elim (place_written xs i j x r is) [
      | inl this ↦ subst (HasReached s) (sym this.1) reached
      | inr other ↦
          elim (cases_lt j i) [
            | inl before ↦ done j r before other.1
            | inr behind ↦ outside (start_behind over xs are i j old r behind was other.1 from none)
          ]
    ])

-- ---- after a change of the trie
pub starts_kept : (family : Family) (old new : Slab PrefixNode) → IsTree (get old) → IsTree (get new) → AllStillThere old new → SameNumbers old new → (xs : List Reached) → AreStarts family old xs → AreStarts family new xs
starts_kept family old new t t' still same xs are =
    each_start xs are (λ i r is few reached. reached_kept old new t t' r (λ n there _. still r.at n there) (λ q _. same q) reached)

pub starts_outside : (family : Family) (old new : Slab PrefixNode) → IsTree (get old) → IsTree (get new) → (over p : Prefix) (number : Option ℕ) → covers over p ≡ true → StillThereOutside old new over → Numbers old new p number → (xs : List Reached) → AreStarts family old xs → AreStartsOutside family new over xs
starts_outside family old new t t' over p number above still numbers xs are =
    each_start xs are (λ i r is few reached outside.
    reached_kept old new t t' r
    (λ n there over_n. still r.at n (false_from_ne_true _ (λ covered. both_ways _ outside (covers_trans over n.prefix r.to covered over_n))) there)
    (λ q over_q.
    let differs : q ≢ p = λ same. both_ways _ outside (covers_trans over q r.to (ap (covers over) same ∙ above) over_q) in
    numbers q ∙ ap (λ b. cond b number (number_of old q)) (not_tied q p differs))
    reached)

pub all_outside : (old new : Slab PrefixNode) (over : Prefix) → AllStillThere old new → StillThereOutside old new over
all_outside old new over still j n _ is = still j n is

-- ---- all, where the prefix is too long to cover one, or each was made once more
pub too_long : (family : Family) (s : Slab PrefixNode) (over : Prefix) (xs : List Reached) → START_BITS < over.len → AreStartsOutside family s over xs → AreStarts family s xs
too_long family s over xs long are =
    each_start xs are (λ i r is few outside. outside (false_from_ne_true _ (λ covered. omega (arith, covers_len over r.to covered, few, long))))

pub all_done : (family : Family) (s : Slab PrefixNode) (over : Prefix) (xs : List Reached) (i : ℕ) → length xs ≤ i → AreStartsOutside family s over xs → ((j : ℕ) (r : Reached) → j < i → slice_get xs j ≡ Some r → HasReached s r) → AreStarts family s xs
all_done family s over xs i end are done =
    each_start xs are (λ j r is few outside. done j r (omega (arith, slice_get_within xs j r is, end)) is)

-- ---- more room for nodes changes nothing
pub starts_room : {family : Family} (s new : Slab PrefixNode) → new ≡ record s { capacity = new.capacity } → IsTrie family s → IsTrie family new → (xs : List Reached) → AreStarts family s xs → AreStarts family new xs
starts_room {family} s new same t t' = starts_kept family s new t.tree t'.tree (λ j n is. (n, ap (λ x. get x j) same ∙ is, refl)) (numbers_room s new same)
