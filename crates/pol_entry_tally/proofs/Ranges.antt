-- What is listed of one range of numbers and of the next, and of the turns of one group among those of others.
use Rattle.std.proofs.Common.{◌≡◌, ℕ, ◌+◌, ◌-◌, ◌*◌, ◌/◌, ◌^◌, ◌<◌, ◌≤◌, ◌==◌, Bool, true, false, cond, List, [], ◌∷◌, ◌++◌, Result, Ok, Err, OnOk, OnErr, refl, sym, ◌∙◌, ap, subst, inl, inr, arith, append-nil}
use Rattle.std.specs.List.{AllByRecursion, Contains}
use Rattle.std.specs.List.Sorted.{IsStrictlySortedBy}
use Rattle.std.specs.declared.cmp.Ordering.TheVariants.{Less}
use Rattle.std.proofs.lemmas.Bool.{both_ways, cases_Bool, cases_lt, eq-eqb, eqb-true, or_parts}
use Rattle.std.proofs.lemmas.Grind.{flat_map-append}
use Rattle.std.proofs.lemmas.List.{append_assoc}
use Rattle.std.proofs.lemmas.List.Folds.{list_any-append}
use Rattle.std.proofs.lemmas.List.Sums.{sum_by-append}
use Rattle.pol_data.proofs.Every.{every-append, every-contained}
use Rattle.pol_mapkey.specs.MapKey.{key_cmp, same_key}
use Rattle.pol_mapkey.specs.declared.Kind.{Kind}
use Rattle.pol_mapkey.specs.declared.MapKey.{MapKey}
use Rattle.pol_map_changes.specs.declared.change.Change.{Change}
use Rattle.pol_entry_tally.specs.declared.counts.Count.{Count}
use Rattle.pol_entry_tally.specs.declared.tally.Tally.{Tally}
use Rattle.pol_entry_tally.specs.Affected.{GoesOn, change_at, changes_at, has_key, says}
use Rattle.pol_entry_tally.specs.Counted.{AreInOrder, HasPut, IsTurnedTo, SameCounts, of_group, times_after, times_of}
use Rattle.pol_entry_tally.specs.Counts.{AreCounts, AreOf, IsHeld, IsTurnedBy, downs, held, times_at, turned, ups}
use Rattle.pol_entry_tally.specs.Numbers.{dir_place, fits, group_of, number_of, place_of}
use Rattle.pol_entry_tally.specs.Sizes.{clear_count, is_clear, is_new, new_count}
use Rattle.pol_entry_tally.specs.Times.{Times, kind_of}
use Rattle.pol_entry_tally.proofs.ByNumber.{local_small, number_is}
use Rattle.pol_entry_tally.proofs.OfGroup.{key_less}
use Rattle.pol_entry_tally.proofs.Turned.{none_turns, place_small}
use Rattle.pol_entry_tally.proofs.Under.{kind_alike}

-- ---- nothing is listed where nothing differs
none_sorted : IsStrictlySortedBy key_cmp []
unfolding IsStrictlySortedBy
none_sorted = tt

pub none_differ : (before after : Times) (from to : ℕ) (list : List Change) (size : ℕ)
    → ((q : MapKey) → fits q ≡ true → from ≤ number_of q → number_of q < to → kind_of before q ≡ kind_of after q) → GoesOn before after from to list list size size
none_differ before after from to list size same = record {
  keys = [];
  ascends = none_sorted;
  within = tt;
  others = λ q fit low high none. same q fit low high;
  made = sym (append-nil list);
  sized = refl;
}

-- ---- one range, and the next
module _ (from mid to : ℕ) (le : from ≤ mid) (le' : mid ≤ to) where
  abbrev Within : ℕ → ℕ → MapKey → Type 0
  Within low high k = (fits k ≡ true) × (low ≤ number_of k) × (number_of k < high)

  above_all : (k : MapKey) (ls : List MapKey) → Within from mid k → AllByRecursion (Within mid to) ls → AllByRecursion (λ l. key_cmp k l ≡ Less) ls
  above_all k [] own all = tt
  above_all k (l ∷ ls) own all =
      let one = all.0 in
      (key_less k l own.0 one.0 (omega (arith, own.2, one.1)), above_all k ls own all.1)

  both_ascend : (ks ls : List MapKey) → AllByRecursion (Within from mid) ks → AllByRecursion (Within mid to) ls → IsStrictlySortedBy key_cmp ks → IsStrictlySortedBy key_cmp ls
      → IsStrictlySortedBy key_cmp (ks ++ ls)
  unfolding IsStrictlySortedBy
  both_ascend [] ls one two up up' = up'
  both_ascend (k ∷ ks) ls one two up up' =
      (every-append (λ l. key_cmp k l ≡ Less) ks ls up.0 (above_all k ls one.0 two), both_ascend ks ls one.1 two up.1 up')

  wider_low : (ks : List MapKey) → AllByRecursion (Within from mid) ks → AllByRecursion (Within from to) ks
  wider_low [] all = tt
  wider_low (k ∷ ks) all = (let own = all.0 in (own.0, own.1, omega (arith, own.2, le')), wider_low ks all.1)

  wider_high : (ks : List MapKey) → AllByRecursion (Within mid to) ks → AllByRecursion (Within from to) ks
  wider_high [] all = tt
  wider_high (k ∷ ks) all = (let own = all.0 in (own.0, omega (arith, own.1, le), own.2), wider_high ks all.1)

  pub goes_further : (before after : Times) (one two three : List Change) (s t u : ℕ) → GoesOn before after from mid one two s t → GoesOn before after mid to two three t u
      → GoesOn before after from to one three s u
  goes_further before after one two three s t u first then' =
      let ks = first.keys in
      let ls = then'.keys in
      let all : changes_at before after (ks ++ ls) ≡ changes_at before after ks ++ changes_at before after ls = flat_map-append (λ key. change_at key (says before after key)) ks ls in
      record {
        keys = ks ++ ls;
        ascends = both_ascend ks ls first.within then'.within first.ascends then'.ascends;
        within = every-append (Within from to) ks ls (wider_low ks first.within) (wider_high ls then'.within);
        others = λ q fit low high none.
            let parts = or_parts (has_key q ks) (has_key q ls) (sym (list_any-append (λ own. same_key own q) ks ls) ∙ none) in
            elim (cases_lt (number_of q) mid) [
              | inl less ↦ first.others q fit low less parts.0
              | inr more ↦ then'.others q fit more high parts.1
            ];
        made = then'.made ∙ ap (λ l. l ++ changes_at before after ls) first.made ∙ append_assoc one (changes_at before after ks) (changes_at before after ls) ∙ ap (λ l. one ++ l) (sym all);
        sized = omega (
          arith,
          first.sized,
          then'.sized,
          ap clear_count all ∙ sum_by-append (λ c. cond (is_clear c) 1 0) (changes_at before after ks) (changes_at before after ls),
          ap (new_count before) all ∙ sum_by-append (λ c. cond (is_new before c) 1 0) (changes_at before after ks) (changes_at before after ls),
        );
      }

-- ---- a tally and its groups
pub held_before : (tally : Tally) (g : ℕ) → IsHeld g (of_group tally g) (times_of tally)
held_before tally g q k own = ap (λ n. held (of_group tally n) q k) own

pub held_after : (tally : Tally) (turns : List ℕ) (g : ℕ) (new : List Count) → IsTurnedBy g turns (of_group tally g) new → IsHeld g new (times_after tally turns)
held_after tally turns g new moved q k own = by (fits q) refl
  where
    by : (b : Bool) → fits q ≡ b → cond b (turned (group_of q) turns (of_group tally (group_of q)) (place_of q k)) 0 ≡ cond b (times_at new (place_of q k)) 0
    by true fit = ap (λ n. turned n turns (of_group tally n) (place_of q k)) own ∙ sym (moved (place_of q k) (place_small q k fit))
    by false out = refl

other_group : (turns : List ℕ) (group g p : ℕ) → AreOf group turns → (group ≡ g → ⊥) → p < 2 ^ 24 → (ups turns (g * 2 ^ 24 + p) ≡ 0) × (downs turns (g * 2 ^ 24 + p) ≡ 0)
other_group [] group g p of differs small = (refl, refl)
other_group (t ∷ ts) group g p of differs small =
    none_turns (t ∷ ts) (g * 2 ^ 24 + p) (λ u there half. differs (wrong u (every-of (t ∷ ts) u of there) half))
  where
    every-of : (us : List ℕ) (u : ℕ) → AreOf group us → Contains us u → u / 2 ^ 25 ≡ group
    every-of us u all there = every-contained (λ v. v / 2 ^ 25 ≡ group) us u all there

    wrong : (u : ℕ) → u / 2 ^ 25 ≡ group → u / 2 ≡ g * 2 ^ 24 + p → group ≡ g
    wrong u own half = omega (arith, own, half, small)

module _ (old new : Tally) (group : ℕ) (counts : List Count) (turns : List ℕ) (order : AreInOrder old) (put : HasPut old new group counts) where
  pub put_in_order : AreCounts counts → AreInOrder new
  put_in_order are g =
      elim (cases_Bool (group == g)) [
        | inl t ↦ subst AreCounts (sym (put g ∙ ap (λ b. cond b counts (of_group old g)) t)) are
        | inr f ↦ subst AreCounts (sym (put g ∙ ap (λ b. cond b counts (of_group old g)) f)) (order g)
      ]

  pub put_turned : AreOf group turns → IsTurnedBy group turns (of_group old group) counts → IsTurnedTo old turns new
  put_turned of moved g p small =
      elim (cases_Bool (group == g)) [
        | inl t ↦
            (let same : group ≡ g = eqb-true group g t in
            ap (λ l. times_at l p) (put g ∙ ap (λ b. cond b counts (of_group old g)) t) ∙ moved p small ∙ ap (λ n. turned n turns (of_group old n) p) same)
        | inr f ↦
            (let none = other_group turns group g p of (λ same. both_ways (group == g) f (eq-eqb group g same)) small in
            let is : times_at (of_group new g) p ≡ times_at (of_group old g) p = ap (λ l. times_at l p) (put g ∙ ap (λ b. cond b counts (of_group old g)) f) in
            omega (arith, is, none.0, none.1))
      ]

pub same_in_order : (old new : Tally) → AreInOrder old → SameCounts old new → AreInOrder new
same_in_order old new order same g = subst AreCounts (sym (same g)) (order g)

pub either_in_order : {A E : Type 0} (r : Result A E) (old new : Tally) (group : ℕ) (counts : List Count) → AreInOrder old → AreCounts counts
    → OnOk r (HasPut old new group counts) → OnErr r (SameCounts old new) → AreInOrder new
either_in_order (Ok x) old new group counts order are put same = put_in_order old new group counts [] order put are
either_in_order (Err e) old new group counts order are put same = same_in_order old new order same

pub ok_turned : {A E : Type 0} (r : Result A E) (old new : Tally) (group : ℕ) (counts : List Count) (turns : List ℕ) → AreInOrder old → AreOf group turns → IsTurnedBy group turns (of_group old group) counts
    → OnOk r (HasPut old new group counts) → OnOk r (IsTurnedTo old turns new)
ok_turned (Ok x) old new group counts turns order of moved put = put_turned old new group counts turns order put of moved
ok_turned (Err e) old new group counts turns order of moved put = tt

pub ok_map : {A E : Type 0} (r : Result A E) {P Q : Type 0} → OnOk r P → (P → Q) → OnOk r Q
ok_map (Ok x) p f = f p
ok_map (Err e) p f = tt

pub on_ok : {A E : Type 0} (r : Result A E) {P : Type 0} → P → OnOk r P
on_ok (Ok x) p = p
on_ok (Err e) p = tt

-- ---- where no turn is of the keys in a range
range_group : (q : MapKey) (g h : ℕ) → fits q ≡ true → g * 2 ^ 23 ≤ number_of q → number_of q < h * 2 ^ 23 → (g ≤ group_of q) × (group_of q < h)
range_group q g h fit low high = (omega (arith, number_is q, local_small q fit, low), omega (arith, number_is q, high))

own_group : (w q : MapKey) → w.dir ≡ q.dir → w.id ≡ q.id → group_of w ≡ group_of q
own_group w q dirs ids = λ i. dir_place (dirs i) * 2 ^ 32 + ids i

pub unturned_key : (tally : Tally) (turns : List ℕ) (q : MapKey) → ((p : ℕ) → p < 2 ^ 24 → (ups turns (group_of q * 2 ^ 24 + p) ≡ 0) × (downs turns (group_of q * 2 ^ 24 + p) ≡ 0))
    → kind_of (times_of tally) q ≡ kind_of (times_after tally turns) q
unturned_key tally turns q none =
    kind_alike (times_of tally) (times_after tally turns) q (λ w k dirs ids. by w k (own_group w q dirs ids) (fits w) refl)
  where
    by : (w : MapKey) (k : Kind) → group_of w ≡ group_of q → (b : Bool) → fits w ≡ b
        → cond b (times_at (of_group tally (group_of w)) (place_of w k)) 0 ≡ cond b (turned (group_of w) turns (of_group tally (group_of w)) (place_of w k)) 0
    by w k own true fit =
        let zero = none (place_of w k) (place_small w k fit) in
        let come : ups turns (group_of w * 2 ^ 24 + place_of w k) ≡ 0 = ap (λ g. ups turns (g * 2 ^ 24 + place_of w k)) own ∙ zero.0 in
        let go : downs turns (group_of w * 2 ^ 24 + place_of w k) ≡ 0 = ap (λ g. downs turns (g * 2 ^ 24 + place_of w k)) own ∙ zero.1 in
        omega (arith, come, go)
    by w k own false out = refl

pub gap_goes_on : (tally : Tally) (turns : List ℕ) (g h : ℕ) (list : List Change) (size : ℕ)
    → ((n p : ℕ) → g ≤ n → n < h → p < 2 ^ 24 → (ups turns (n * 2 ^ 24 + p) ≡ 0) × (downs turns (n * 2 ^ 24 + p) ≡ 0))
    → GoesOn (times_of tally) (times_after tally turns) (g * 2 ^ 23) (h * 2 ^ 23) list list size size
gap_goes_on tally turns g h list size none =
    none_differ (times_of tally) (times_after tally turns) (g * 2 ^ 23) (h * 2 ^ 23) list size (λ q fit low high.
    let own = range_group q g h fit low high in
    unturned_key tally turns q (λ p small. none (group_of q) p own.0 own.1 small))

-- the turns of one group are all
pub one_goes_on : (tally : Tally) (turns : List ℕ) (group : ℕ) (old new : List Change) (size grown : ℕ) → group < 2 ^ 33 → AreOf group turns
    → GoesOn (times_of tally) (times_after tally turns) (group * 2 ^ 23) ((group + 1) * 2 ^ 23) old new size grown
    → GoesOn (times_of tally) (times_after tally turns) (0 * 2 ^ 23) (2 ^ 33 * 2 ^ 23) old new size grown
one_goes_on tally turns group old new size grown small of goes =
    goes_further (0 * 2 ^ 23) ((group + 1) * 2 ^ 23) (2 ^ 33 * 2 ^ 23) (omega arith) (omega (arith, small)) (times_of tally) (times_after tally turns) old new new size grown grown
    (goes_further (0 * 2 ^ 23) (group * 2 ^ 23) ((group + 1) * 2 ^ 23) (omega arith) (omega arith) (times_of tally) (times_after tally turns) old old new size size grown
    (gap_goes_on tally turns 0 group old size (λ n p low high below. other_group turns group n p of (λ same. omega (arith, same, high)) below)) goes)
    (gap_goes_on tally turns (group + 1) (2 ^ 33) new grown (λ n p low high below. other_group turns group n p of (λ same. omega (arith, same, low)) below))

-- no turn at all
pub none_goes_on : (tally : Tally) (list : List Change) (size : ℕ) → GoesOn (times_of tally) (times_after tally []) (0 * 2 ^ 23) (2 ^ 33 * 2 ^ 23) list list size size
none_goes_on tally list size = gap_goes_on tally [] 0 (2 ^ 33) list size (λ n p low high below. (refl, refl))

pub none_turned : (tally : Tally) → IsTurnedTo tally [] tally
none_turned tally g p small = plain (times_at (of_group tally g) p)
  where
    plain : (n : ℕ) → n ≡ n + 0 - 0
    plain n = omega arith
