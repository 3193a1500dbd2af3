-- Counts in the order of their places: what stands at a place, and where such a list parts.
use Rattle.std.proofs.Common.{◌≡◌, ℕ, zero, suc, ◌<◌, ◌≤◌, ◌==◌, Bool, true, false, cond, nat_lt, List, [], ◌∷◌, ◌++◌, map, length, take, drop, slice_get, slice_index_or, Some, refl, sym, ◌∙◌, ap, subst, inl, inr, arith}
use Rattle.std.specs.List.{AllByRecursion}
use Rattle.std.specs.List.Sorted.{IsPartitionPoint, IsPartitionedBy, IsStrictlySortedBy}
use Rattle.std.specs.Ordering.{MatchOrdering, nat_cmp}
use Rattle.std.specs.Cmp.{ranks}
use Rattle.std.specs.declared.cmp.Ordering.{Ordering}
use Rattle.std.specs.declared.cmp.Ordering.TheVariants.{Less, Equal, Greater}
use Rattle.std.proofs.lemmas.Bool.{both_ways, cases_lt, eq-eqb, eqb-true, ne_eqb, lt-ltb, ltb-true}
use Rattle.std.proofs.lemmas.Option.{same_Some}
use Rattle.pol_entry_tally.specs.declared.counts.Count.{Count}
use Rattle.pol_entry_tally.specs.Counts.{AreBefore, AreFrom, Ascend, behind, times_at}

-- ---- the order of places
pub less_is : (x y : ℕ) → nat_cmp x y ≡ Less → x < y
less_is x y e = by (nat_cmp x y) (ranks x y) e
  where
    by : (o : Ordering) → MatchOrdering o (x < y) (x ≡ y) (y < x) → o ≡ Less → x < y
    by Less less _ = less
    by Equal _ wrong = absurd (let no : ⊥ = cc in no)
    by Greater _ wrong = absurd (let no : ⊥ = cc in no)

pub is_less : (x y : ℕ) → x < y → nat_cmp x y ≡ Less
is_less x y less = by (nat_cmp x y) (ranks x y)
  where
    by : (o : Ordering) → MatchOrdering o (x < y) (x ≡ y) (y < x) → o ≡ Less
    by Less _ = refl
    by Equal same = absurd (omega (arith, less, same))
    by Greater more = absurd (omega (arith, less, more))

abbrev pub AreAbove : ℕ → List Count → Type 0
AreAbove place counts = AllByRecursion (λ c. place < c.place) counts

above_of : (x : ℕ) (cs : List Count) → AllByRecursion (λ y. nat_cmp x y ≡ Less) (map (λ (c : Count). c.place) cs) → AreAbove x cs
above_of x [] all = tt
above_of x (c ∷ cs) all = (less_is x c.place all.0, above_of x cs all.1)

of_above : (x : ℕ) (cs : List Count) → AreAbove x cs → AllByRecursion (λ y. nat_cmp x y ≡ Less) (map (λ (c : Count). c.place) cs)
of_above x [] all = tt
of_above x (c ∷ cs) all = (is_less x c.place all.0, of_above x cs all.1)

pub above_first : (c : Count) (cs : List Count) → Ascend (c ∷ cs) → AreAbove c.place cs
unfolding IsStrictlySortedBy
above_first c cs up = above_of c.place cs up.0

pub rest_ascend : (c : Count) (cs : List Count) → Ascend (c ∷ cs) → Ascend cs
unfolding IsStrictlySortedBy
rest_ascend c cs up = up.1

pub none_ascend : Ascend []
unfolding IsStrictlySortedBy
none_ascend = tt

pub more_ascend : (c : Count) (cs : List Count) → AreAbove c.place cs → Ascend cs → Ascend (c ∷ cs)
unfolding IsStrictlySortedBy
more_ascend c cs above up = (of_above c.place cs above, up)

-- ---- what holds of every count, with one bound for another
pub above_weaker : (p q : ℕ) (cs : List Count) → p ≤ q → AreAbove q cs → AreAbove p cs
above_weaker p q [] le all = tt
above_weaker p q (c ∷ cs) le all = (let one = all.0 in omega (arith, le, one), above_weaker p q cs le all.1)

pub above_from : (p : ℕ) (cs : List Count) → AreAbove p cs → AreFrom p cs
above_from p [] all = tt
above_from p (c ∷ cs) all = (let one = all.0 in omega (arith, one), above_from p cs all.1)

pub before_weaker : (p q : ℕ) (cs : List Count) → p ≤ q → AreBefore p cs → AreBefore q cs
before_weaker p q [] le all = tt
before_weaker p q (c ∷ cs) le all = (let one = all.0 in omega (arith, le, one), before_weaker p q cs le all.1)

-- ---- what stands at a place
pub none_at : (p : ℕ) (cs : List Count) → AreAbove p cs → times_at cs p ≡ 0
none_at p [] all = refl
none_at p (c ∷ cs) all =
    let one = all.0 in
    ap (λ b. cond b c.times (times_at cs p)) (ne_eqb c.place p (λ same. let is : c.place ≡ p = same in omega (arith, is, one))) ∙ none_at p cs all.1

pub at_behind : (p : ℕ) (fs bs : List Count) → AreBefore p fs → times_at (fs ++ bs) p ≡ times_at bs p
at_behind p [] bs all = refl
at_behind p (c ∷ cs) bs all =
    let one = all.0 in
    ap (λ b. cond b c.times (times_at (cs ++ bs) p)) (ne_eqb c.place p (λ same. let is : c.place ≡ p = same in omega (arith, is, one))) ∙ at_behind p cs bs all.1

-- ---- where a list parts
pub back_ascends : (fs bs : List Count) → Ascend (fs ++ bs) → Ascend bs
back_ascends [] bs up = up
back_ascends (a ∷ fs) bs up = back_ascends fs bs (rest_ascend a (fs ++ bs) up)

both_above : (p : ℕ) (fs bs : List Count) → AreAbove p fs → AreAbove p bs → AreAbove p (fs ++ bs)
both_above p [] bs one two = two
both_above p (a ∷ fs) bs one two = (one.0, both_above p fs bs one.1 two)

pub above_parts : (p : ℕ) (fs bs : List Count) → AreAbove p (fs ++ bs) → AreAbove p fs × AreAbove p bs
above_parts p [] bs all = (tt, all)
above_parts p (a ∷ fs) bs all = let rest = above_parts p fs bs all.1 in ((all.0, rest.0), rest.1)

pub front_ascends : (fs bs : List Count) → Ascend (fs ++ bs) → Ascend fs
front_ascends [] bs up = none_ascend
front_ascends (a ∷ fs) bs up =
    more_ascend a fs (above_parts a.place fs bs (above_first a (fs ++ bs) up)).0 (front_ascends fs bs (rest_ascend a (fs ++ bs) up))

from_above : (p q : ℕ) (bs : List Count) → q < p → AreFrom p bs → AreAbove q bs
from_above p q [] less all = tt
from_above p q (b ∷ bs) less all = (let one = all.0 in omega (arith, less, one), from_above p q bs less all.1)

-- those before a place, and those from it on
pub joined_ascend : (p : ℕ) (fs bs : List Count) → Ascend fs → Ascend bs → AreBefore p fs → AreFrom p bs → Ascend (fs ++ bs)
joined_ascend p [] bs up_a up_b low high = up_b
joined_ascend p (a ∷ fs) bs up_a up_b low high =
    more_ascend a (fs ++ bs) (both_above a.place fs bs (above_first a fs up_a) (from_above p a.place bs low.0 high)) (joined_ascend p fs bs (rest_ascend a fs up_a) up_b low.1 high)

pub both_before : (p : ℕ) (fs bs : List Count) → AreBefore p fs → AreBefore p bs → AreBefore p (fs ++ bs)
both_before p [] bs one two = two
both_before p (a ∷ fs) bs one two = (one.0, both_before p fs bs one.1 two)

-- ---- the first of those from a place on
pub first_is : (p : ℕ) (cs : List Count) (c : Count) (rest : List Count) → cs ≡ c ∷ rest → Ascend cs → AreFrom p cs → (c.place ≡ p → ⊥) → times_at cs p ≡ 0
first_is p cs c rest is up from differs =
    let up' = subst Ascend is up in
    let low = (subst (AreFrom p) is from).0 in
    let less : p < c.place = elim (cases_lt p c.place) [ inl l ↦ l | inr m ↦ absurd (differs (omega (arith, m, low))) ] in
    ap (λ l. times_at l p) is ∙ none_at p (c ∷ rest) (less, above_weaker p c.place rest (omega (arith, less)) (above_first c rest up'))

pub first_other : (p : ℕ) (cs : List Count) (c : Count) → slice_get cs 0 ≡ Some c → Ascend cs → AreFrom p cs → (c.place ≡ p → ⊥) → 0 ≡ times_at cs p
first_other p [] c is up from differs = absurd (let no : ⊥ = cc in no)
first_other p (d ∷ ds) c is up from differs = let same : d ≡ c = same_Some d c is in sym (first_is p (d ∷ ds) d ds refl up from (λ at. differs (ap (λ (x : Count). x.place) (sym same) ∙ at)))

from_weaker : (p q : ℕ) (cs : List Count) → p ≤ q → AreAbove q cs → AreFrom p cs
from_weaker p q cs le all = above_from p cs (above_weaker p q cs le all)

pub all_from : (p : ℕ) (cs back : List Count) (c : Count) → slice_get cs 0 ≡ Some c → Ascend cs → p ≤ c.place → back ≡ cs → AreFrom p back
all_from p [] back c is up le same = absurd (let no : ⊥ = cc in no)
all_from p (d ∷ ds) back c is up le same =
    let own : d.place ≡ c.place = ap (λ (x : Count). x.place) (same_Some d c is) in
    let low : p ≤ d.place = omega (arith, own, le) in
    subst (AreFrom p) (sym same) (low, from_weaker p d.place ds low (above_first d ds up))

-- what is behind it, if it stands there
pub behind_above : (p : ℕ) (cs : List Count) → Ascend cs → AreFrom p cs → AreAbove p (behind p cs)
behind_above p [] up from = tt
behind_above p (c ∷ cs) up from = by (c.place == p) refl
  where
    by : (b : Bool) → (c.place == p) ≡ b → AreAbove p (cond b cs (c ∷ cs))
    by true same = (let is : c.place ≡ p = eqb-true c.place p same in subst (λ n. AreAbove n cs) is (above_first c cs up))
    by false other =
        let low = from.0 in
        let less : p < c.place = elim (cases_lt p c.place) [ inl l ↦ l | inr m ↦ absurd (both_ways (c.place == p) other (eq-eqb c.place p (omega (arith, m, low)))) ] in
        (less, above_weaker p c.place cs (omega (arith, less)) (above_first c cs up))

pub behind_ascends : (p : ℕ) (cs : List Count) → Ascend cs → Ascend (behind p cs)
behind_ascends p [] up = up
behind_ascends p (c ∷ cs) up = by (c.place == p)
  where
    by : (b : Bool) → Ascend (cond b cs (c ∷ cs))
    by true = rest_ascend c cs up
    by false = up

-- ---- a partition point
module _ (p : ℕ) where
  abbrev Low : Count → Bool
  Low c = nat_lt c.place p

  pub take_before : (cs : List Count) (i : ℕ) → i ≤ length cs → IsPartitionPoint (λ c. Low c ≡ true) (λ c. Low c ≡ false) cs i → AreBefore p (take i cs)
  take_before cs zero within point = tt
  take_before [] (suc i) within point = absurd (omega (arith, within))
  take_before (c ∷ cs) (suc i) within point = (
    ltb-true c.place p (point.0 0 c (omega arith) (omega arith)),
    take_before cs i (omega (arith, within)) (λ k d low below. point.0 (suc k) d (omega (arith, low)) (omega (arith, below)), λ k d low below. point.1 (suc k) d (omega (arith, low)) (omega (arith, below))),
  )

  not_low : (c : Count) → Low c ≡ false → p ≤ c.place
  not_low c f = elim (cases_lt c.place p) [ inl l ↦ absurd (both_ways (Low c) f (lt-ltb c.place p l)) | inr m ↦ m ]

  pub drop_from : (cs : List Count) (i : ℕ) → i ≤ length cs → IsPartitionPoint (λ c. Low c ≡ true) (λ c. Low c ≡ false) cs i → AreFrom p (drop i cs)
  drop_from [] zero within point = tt
  drop_from (c ∷ cs) zero within point = (
    not_low c (point.1 0 c (omega arith) (omega arith)),
    drop_from cs zero (omega arith) (λ k d low below. absurd (omega (arith, low)), λ k d low below. point.1 (suc k) d (omega arith) (omega (arith, below))),
  )
  drop_from [] (suc i) within point = absurd (omega (arith, within))
  drop_from (c ∷ cs) (suc i) within point =
      drop_from cs i (omega (arith, within)) (λ k d low below. point.0 (suc k) d (omega (arith, low)) (omega (arith, below)), λ k d low below. point.1 (suc k) d (omega (arith, low)) (omega (arith, below)))

  above_at : (q : ℕ) (cs : List Count) → AreAbove q cs → (j : ℕ) (d : Count) → j < length cs → q < (slice_index_or cs j d).place
  above_at q [] all j d within = absurd (omega (arith, within))
  above_at q (c ∷ cs) all zero d within = all.0
  above_at q (c ∷ cs) all (suc j) d within = above_at q cs all.1 j d (omega (arith, within))

  pub partitioned : (cs : List Count) → Ascend cs → IsPartitionedBy Low cs
  partitioned [] up i j d le within t = absurd (omega (arith, within))
  partitioned (c ∷ cs) up zero zero d le within t = t
  partitioned (c ∷ cs) up zero (suc j) d le within t =
      let more = above_at c.place cs (above_first c cs up) j d (omega (arith, within)) in
      let low = ltb-true (slice_index_or cs j d).place p t in
      lt-ltb c.place p (omega (arith, more, low))
  partitioned (c ∷ cs) up (suc i) zero d le within t = absurd (omega (arith, le))
  partitioned (c ∷ cs) up (suc i) (suc j) d le within t = partitioned cs (rest_ascend c cs up) i j d (omega (arith, le)) (omega (arith, within)) t
