-- Turns in their order, and how many of them have a code come or go.
use Rattle.std.proofs.Common.{◌≡◌, ℕ, zero, suc, ◌+◌, ◌*◌, ◌/◌, ◌<◌, ◌≤◌, ◌==◌, Bool, true, false, cond, List, [], ◌∷◌, ◌++◌, map, length, drop, slice_index_or, count_by, refl, sym, ◌∙◌, ap, subst, inl, inr, arith}
use Rattle.std.specs.List.{AllByRecursion, Contains}
use Rattle.std.specs.List.Sorted.{IsNonDecreasingBy, IsPermutation, IsSorted}
use Rattle.std.specs.Ordering.{nat_cmp}
use Rattle.std.proofs.lemmas.Bool.{both_ways, cases_Bool, eq-eqb, eqb-true, ne_eqb}
use Rattle.std.proofs.lemmas.List.Sums.{sum_by-append}
use Rattle.std.proofs.lemmas.List.Sorted.{Contains-permutation, IsNonDecreasingBy-from_sort, IsPermutation-sym, sum_by-IsPermutation}
use Rattle.pol_data.proofs.Counts.{count_by-cons}
use Rattle.pol_data.proofs.Every.{every-contained}
use Rattle.pol_data.proofs.Members.{Contains-here, Contains-later}
use Rattle.pol_mapkey.specs.Entries.{Entry}
use Rattle.pol_mapkey.specs.declared.Kind.{Kind}
use Rattle.pol_mapkey.specs.declared.MapKey.{MapKey}
use Rattle.pol_entry_tally.specs.Numbers.{code_of, fits}
use Rattle.std.proofs.lemmas.List.{append_assoc}
use Rattle.pol_entry_tally.specs.Counts.{AreTurns, IsRunOf, IsTurn, Rises, downs, ups}
use Rattle.pol_entry_tally.specs.Times.{is_entry, times}
use Rattle.pol_entry_tally.proofs.ByNumber.{code_same}

-- ---- parts of lists that rise
pub rises_back : (fs bs : List ℕ) → Rises (fs ++ bs) → Rises bs
rises_back [] bs up = up
rises_back (f ∷ fs) bs up = rises_back fs bs up.1

pub all_front : (P : ℕ → Type 0) (fs bs : List ℕ) → AllByRecursion P (fs ++ bs) → AllByRecursion P fs
all_front P [] bs all = tt
all_front P (f ∷ fs) bs all = (all.0, all_front P fs bs all.1)

pub all_back : (P : ℕ → Type 0) (fs bs : List ℕ) → AllByRecursion P (fs ++ bs) → AllByRecursion P bs
all_back P [] bs all = all
all_back P (f ∷ fs) bs all = all_back P fs bs all.1

pub rises_front : (fs bs : List ℕ) → Rises (fs ++ bs) → Rises fs
rises_front [] bs up = tt
rises_front (f ∷ fs) bs up = (all_front (λ u. f ≤ u) fs bs up.0, rises_front fs bs up.1)

from_first : (b t : ℕ) (ts : List ℕ) → b ≤ t → AllByRecursion (λ u. t ≤ u) ts → AllByRecursion (λ u. b ≤ u) ts
from_first b t [] le all = tt
from_first b t (u ∷ us) le all = (let one = all.0 in omega (arith, le, one), from_first b t us le all.1)

-- where the first of those that are left is not below a bound, none is
pub high_at : (bound : ℕ) (ts : List ℕ) (i d : ℕ) → Rises ts → i < length ts → bound ≤ slice_index_or ts i d → AllByRecursion (λ u. bound ≤ u) (drop i ts)
high_at bound [] i d up within le = absurd (omega (arith, within))
high_at bound (t ∷ ts) zero d up within le = (le, from_first bound t ts le up.0)
high_at bound (t ∷ ts) (suc i) d up within le = high_at bound ts i d up.1 (omega (arith, within)) le

-- ---- a sorted list rises
low_first : (t : ℕ) (ts : List ℕ) → ((j d : ℕ) → j < length ts → t ≤ slice_index_or ts j d) → AllByRecursion (λ u. t ≤ u) ts
low_first t [] low = tt
low_first t (u ∷ us) low = (low 0 u (omega arith), low_first t us (λ j d within. low (suc j) d (omega (arith, within))))

rises_by : (ts : List ℕ) → IsNonDecreasingBy (λ x. x) ts → Rises ts
rises_by [] up = tt
rises_by (t ∷ ts) up = (
  low_first t ts (λ j d within. up 0 (suc j) d (omega arith) (omega (arith, within))),
  rises_by ts (λ i j d le within. up (suc i) (suc j) d (omega (arith, le)) (omega (arith, within))),
)

pub rises_sorted : (ts : List ℕ) → IsSorted nat_cmp ts → Rises ts
rises_sorted ts up = rises_by ts (IsNonDecreasingBy-from_sort (λ x. x) ts up)

-- ---- of entries that fit
pub made_turns : (goes : ℕ) (es : List Entry) → goes ≤ 1 → AllByRecursion (λ (e : Entry). fits e.0 ≡ true) es → AreTurns (map (λ (e : Entry). code_of e.0 e.1 * 2 + goes) es)
made_turns goes [] le all = tt
made_turns goes (e ∷ es) le all =
    let half : (code_of e.0 e.1 * 2 + goes) / 2 ≡ code_of e.0 e.1 = halved (code_of e.0 e.1) goes le in
    ((e.0, e.1, all.0, half), made_turns goes es le all.1)
  where
    halved : (c g : ℕ) → g ≤ 1 → (c * 2 + g) / 2 ≡ c
    halved c g le = omega (arith, le)

pub ups_made : (es : List Entry) (q : MapKey) (k : Kind) → fits q ≡ true → AllByRecursion (λ (e : Entry). fits e.0 ≡ true) es
    → (ups (map (λ (e : Entry). code_of e.0 e.1 * 2 + 0) es) (code_of q k) ≡ times es q k) × (downs (map (λ (e : Entry). code_of e.0 e.1 * 2 + 0) es) (code_of q k) ≡ 0)
ups_made [] q k fit all = (refl, refl)
ups_made (e ∷ es) q k fit all =
    let rest = ups_made es q k fit all.1 in
    let c = code_of e.0 e.1 in
    let ts = map (λ (e : Entry). code_of e.0 e.1 * 2 + 0) es in (
      count_by-cons (λ t. t == code_of q k * 2) (c * 2 + 0) ts ∙ (λ i. cond ((twice c (code_of q k) ∙ code_same e q k all.0 fit) i) 1 0 + rest.0 i) ∙ sym (count_by-cons (is_entry q k) e es),
      count_by-cons (λ t. t == code_of q k * 2 + 1) (c * 2 + 0) ts ∙ (λ i. cond (never c (code_of q k) i) 1 0 + rest.1 i),
    )
  where
    never : (c d : ℕ) → (c * 2 + 0 == d * 2 + 1) ≡ false
    never c d = ne_eqb (c * 2 + 0) (d * 2 + 1) (λ same. let is : c * 2 + 0 ≡ d * 2 + 1 = same in omega (arith, is))

    twice : (c d : ℕ) → (c * 2 + 0 == d * 2) ≡ (c == d)
    twice c d = elim (cases_Bool (c == d)) [
      | inl t ↦ (let is : c ≡ d = eqb-true c d t in let both : c * 2 + 0 ≡ d * 2 = omega (arith, is) in eq-eqb (c * 2 + 0) (d * 2) both ∙ sym t)
      | inr f ↦ (ne_eqb (c * 2 + 0) (d * 2) (λ same. let is : c * 2 + 0 ≡ d * 2 = same in both_ways (c == d) f (eq-eqb c d (omega (arith, is)))) ∙ sym f)
    ]

pub downs_made : (es : List Entry) (q : MapKey) (k : Kind) → fits q ≡ true → AllByRecursion (λ (e : Entry). fits e.0 ≡ true) es
    → (downs (map (λ (e : Entry). code_of e.0 e.1 * 2 + 1) es) (code_of q k) ≡ times es q k) × (ups (map (λ (e : Entry). code_of e.0 e.1 * 2 + 1) es) (code_of q k) ≡ 0)
downs_made [] q k fit all = (refl, refl)
downs_made (e ∷ es) q k fit all =
    let rest = downs_made es q k fit all.1 in
    let c = code_of e.0 e.1 in
    let ts = map (λ (e : Entry). code_of e.0 e.1 * 2 + 1) es in (
      count_by-cons (λ t. t == code_of q k * 2 + 1) (c * 2 + 1) ts ∙ (λ i. cond ((twice c (code_of q k) ∙ code_same e q k all.0 fit) i) 1 0 + rest.0 i) ∙ sym (count_by-cons (is_entry q k) e es),
      count_by-cons (λ t. t == code_of q k * 2) (c * 2 + 1) ts ∙ (λ i. cond (never c (code_of q k) i) 1 0 + rest.1 i),
    )
  where
    never : (c d : ℕ) → (c * 2 + 1 == d * 2) ≡ false
    never c d = ne_eqb (c * 2 + 1) (d * 2) (λ same. let is : c * 2 + 1 ≡ d * 2 = same in omega (arith, is))

    twice : (c d : ℕ) → (c * 2 + 1 == d * 2 + 1) ≡ (c == d)
    twice c d = elim (cases_Bool (c == d)) [
      | inl t ↦ (let is : c ≡ d = eqb-true c d t in let both : c * 2 + 1 ≡ d * 2 + 1 = omega (arith, is) in eq-eqb (c * 2 + 1) (d * 2 + 1) both ∙ sym t)
      | inr f ↦ (ne_eqb (c * 2 + 1) (d * 2 + 1) (λ same. let is : c * 2 + 1 ≡ d * 2 + 1 = same in both_ways (c == d) f (eq-eqb c d (omega (arith, is)))) ∙ sym f)
    ]

from_contained : {X : Type 0} (P : X → Type 0) (xs : List X) → ((x : X) → Contains xs x → P x) → AllByRecursion P xs
from_contained P [] holds = tt
from_contained P (y ∷ ys) holds = (holds y (Contains-here y ys), from_contained P ys (λ x later. holds x (Contains-later y ys x later)))

-- ---- both lists, in any order
pub listed_is : (start mid listed one two : List ℕ) → start ≡ [] → mid ≡ start ++ one → listed ≡ mid ++ two → listed ≡ one ++ two
listed_is start mid listed one two none first second = second ∙ ap (λ l. l ++ two) (first ∙ ap (λ l. l ++ one) none)

module _ (come gone : List Entry) (fit_come : AllByRecursion (λ (e : Entry). fits e.0 ≡ true) come) (fit_gone : AllByRecursion (λ (e : Entry). fits e.0 ≡ true) gone)
    (listed turns : List ℕ) (is : listed ≡ map (λ (e : Entry). code_of e.0 e.1 * 2 + 0) come ++ map (λ (e : Entry). code_of e.0 e.1 * 2 + 1) gone) (moved : IsPermutation listed turns) where
  abbrev come_turns : List ℕ
  come_turns = map (λ (e : Entry). code_of e.0 e.1 * 2 + 0) come

  abbrev gone_turns : List ℕ
  gone_turns = map (λ (e : Entry). code_of e.0 e.1 * 2 + 1) gone

  counted_both : (p : ℕ → Bool) → count_by p turns ≡ count_by p come_turns + count_by p gone_turns
  counted_both p = sum_by-IsPermutation (λ t. cond (p t) 1 0) listed turns moved ∙ ap (count_by p) is ∙ sum_by-append (λ t. cond (p t) 1 0) come_turns gone_turns

  pub ups_are : (q : MapKey) (k : Kind) → fits q ≡ true → ups turns (code_of q k) ≡ times come q k
  ups_are q k fit = counted_both (λ t. t == code_of q k * 2) ∙ (λ i. (ups_made come q k fit fit_come).0 i + (downs_made gone q k fit fit_gone).1 i) ∙ plus_none (times come q k)
    where
      plus_none : (n : ℕ) → n + 0 ≡ n
      plus_none n = omega arith

  pub downs_are : (q : MapKey) (k : Kind) → fits q ≡ true → downs turns (code_of q k) ≡ times gone q k
  downs_are q k fit = counted_both (λ t. t == code_of q k * 2 + 1) ∙ (λ i. (ups_made come q k fit fit_come).1 i + (downs_made gone q k fit fit_gone).0 i) ∙ none_plus (times gone q k)
    where
      none_plus : (n : ℕ) → 0 + n ≡ n
      none_plus n = omega arith

  both_turns : (P : ℕ → Type 0) (fs bs : List ℕ) → AllByRecursion P fs → AllByRecursion P bs → AllByRecursion P (fs ++ bs)
  both_turns P [] bs one two = two
  both_turns P (f ∷ fs) bs one two = (one.0, both_turns P fs bs one.1 two)

  pub all_turns : AreTurns turns
  all_turns =
      let listed_turns : AreTurns listed = subst AreTurns (sym is) (both_turns IsTurn come_turns gone_turns (made_turns 0 come (omega arith) fit_come) (made_turns 1 gone (omega arith) fit_gone)) in
      from_contained IsTurn turns (λ t there. every-contained IsTurn listed t listed_turns (Contains-permutation turns listed t (IsPermutation-sym listed turns moved) there))

-- ---- the turns of the first code, and those behind them
pub none_below : (b c : ℕ) (ts : List ℕ) → c * 2 + 1 < b → AllByRecursion (λ t. b ≤ t) ts → (ups ts c ≡ 0) × (downs ts c ≡ 0)
none_below b c [] less all = (refl, refl)
none_below b c (t ∷ ts) less all =
    let rest = none_below b c ts less all.1 in
    let low = all.0 in (
      count_by-cons (λ u. u == c * 2) t ts ∙ (λ i. cond (ne_eqb t (c * 2) (λ same. let is : t ≡ c * 2 = same in omega (arith, is, low, less)) i) 1 0 + rest.0 i),
      count_by-cons (λ u. u == c * 2 + 1) t ts ∙ (λ i. cond (ne_eqb t (c * 2 + 1) (λ same. let is : t ≡ c * 2 + 1 = same in omega (arith, is, low, less)) i) 1 0 + rest.1 i),
    )

pub none_above : (b c : ℕ) (ts : List ℕ) → b ≤ c * 2 → AllByRecursion (λ t. t < b) ts → (ups ts c ≡ 0) × (downs ts c ≡ 0)
none_above b c [] less all = (refl, refl)
none_above b c (t ∷ ts) less all =
    let rest = none_above b c ts less all.1 in
    let low = all.0 in (
      count_by-cons (λ u. u == c * 2) t ts ∙ (λ i. cond (ne_eqb t (c * 2) (λ same. let is : t ≡ c * 2 = same in omega (arith, is, low, less)) i) 1 0 + rest.0 i),
      count_by-cons (λ u. u == c * 2 + 1) t ts ∙ (λ i. cond (ne_eqb t (c * 2 + 1) (λ same. let is : t ≡ c * 2 + 1 = same in omega (arith, is, low, less)) i) 1 0 + rest.1 i),
    )

-- all of them are the one number
all_ups : (c : ℕ) (ts : List ℕ) → AllByRecursion (λ t. c * 2 ≤ t) ts → AllByRecursion (λ t. t < c * 2 + 1) ts → (ups ts c ≡ length ts) × (downs ts c ≡ 0)
all_ups c [] low high = (refl, refl)
all_ups c (t ∷ ts) low high =
    let rest = all_ups c ts low.1 high.1 in
    let le = low.0 in
    let less = high.0 in
    let is : t ≡ c * 2 = omega (arith, le, less) in (
      count_by-cons (λ u. u == c * 2) t ts ∙ (λ i. cond (eq-eqb t (c * 2) is i) 1 0 + rest.0 i) ∙ one_plus (length ts),
      count_by-cons (λ u. u == c * 2 + 1) t ts ∙ (λ i. cond (ne_eqb t (c * 2 + 1) (λ same. let so : t ≡ c * 2 + 1 = same in omega (arith, so, is)) i) 1 0 + rest.1 i),
    )
  where
    one_plus : (n : ℕ) → 1 + n ≡ suc n
    one_plus n = omega arith

all_downs : (c : ℕ) (ts : List ℕ) → AllByRecursion (λ t. c * 2 + 1 ≤ t) ts → AllByRecursion (λ t. t < c * 2 + 2) ts → (ups ts c ≡ 0) × (downs ts c ≡ length ts)
all_downs c [] low high = (refl, refl)
all_downs c (t ∷ ts) low high =
    let rest = all_downs c ts low.1 high.1 in
    let le = low.0 in
    let less = high.0 in
    let is : t ≡ c * 2 + 1 = omega (arith, le, less) in (
      count_by-cons (λ u. u == c * 2) t ts ∙ (λ i. cond (ne_eqb t (c * 2) (λ same. let so : t ≡ c * 2 = same in omega (arith, so, is)) i) 1 0 + rest.0 i),
      count_by-cons (λ u. u == c * 2 + 1) t ts ∙ (λ i. cond (eq-eqb t (c * 2 + 1) is i) 1 0 + rest.1 i) ∙ one_plus (length ts),
    )
  where
    one_plus : (n : ℕ) → 1 + n ≡ suc n
    one_plus n = omega arith

pub ups_append : (c : ℕ) (as' bs : List ℕ) → ups (as' ++ bs) c ≡ ups as' c + ups bs c
ups_append c as' bs = sum_by-append (λ t. cond (t == c * 2) 1 0) as' bs

pub downs_append : (c : ℕ) (as' bs : List ℕ) → downs (as' ++ bs) c ≡ downs as' c + downs bs c
downs_append c as' bs = sum_by-append (λ t. cond (t == c * 2 + 1) 1 0) as' bs

pub run_is : (code : ℕ) (turns come rest gone others : List ℕ) (u d : ℕ) → Rises turns → AllByRecursion (λ t. code * 2 ≤ t) turns
    → turns ≡ come ++ rest → AllByRecursion (λ t. t < code * 2 + 1) come → AllByRecursion (λ t. code * 2 + 1 ≤ t) rest
    → rest ≡ gone ++ others → AllByRecursion (λ t. t < code * 2 + 2) gone → AllByRecursion (λ t. code * 2 + 2 ≤ t) others
    → u ≡ length come → d ≡ length gone → IsRunOf code turns u d others
run_is code turns come rest gone others u d up from first low high second low' high' u_is d_is =
    let one = all_ups code come (all_front (λ t. code * 2 ≤ t) come rest (subst (AllByRecursion (λ t. code * 2 ≤ t)) first from)) low in
    let two = all_downs code gone (all_front (λ t. code * 2 + 1 ≤ t) gone others (subst (AllByRecursion (λ t. code * 2 + 1 ≤ t)) second high)) low' in
    let last = none_below (code * 2 + 2) code others (omega arith) high' in
    let all : turns ≡ come ++ (gone ++ others) = first ∙ ap (λ l. come ++ l) second in
    let ups_all : (c : ℕ) → ups turns c ≡ ups come c + (ups gone c + ups others c) = λ c. ap (λ l. ups l c) all ∙ ups_append c come (gone ++ others) ∙ ap (λ n. ups come c + n) (ups_append c gone others) in
    let downs_all : (c : ℕ) → downs turns c ≡ downs come c + (downs gone c + downs others c) = λ c. ap (λ l. downs l c) all ∙ downs_append c come (gone ++ others) ∙ ap (λ n. downs come c + n) (downs_append c gone others) in
    record {
      come = omega (arith, u_is, ups_all code, one.0, two.0, last.0);
      go = omega (arith, d_is, downs_all code, one.1, two.1, last.1);
      others_come = λ c more. (let a = none_above (code * 2 + 1) c come (omega (arith, more)) low in let b = none_above (code * 2 + 2) c gone (omega (arith, more)) low' in omega (arith, ups_all c, a.0, b.0));
      others_go = λ c more. (let a = none_above (code * 2 + 1) c come (omega (arith, more)) low in let b = none_above (code * 2 + 2) c gone (omega (arith, more)) low' in omega (arith, downs_all c, a.1, b.1));
      above = high';
      rises = rises_back gone others (subst Rises second (rises_back come rest (subst Rises first up)));
      front = come ++ gone;
      parts = all ∙ sym (append_assoc come gone others);
    }
