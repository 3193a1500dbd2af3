-- What is asked of the keys of a group, deny by deny.
use Rattle.std.proofs.Common.{◌≡◌, ℕ, ◌+◌, ◌/◌, ◌%◌, ◌^◌, ◌<◌, ◌≤◌, List, [], ◌∷◌, ◌++◌, drop, slice_get, Some, None, refl, sym, ◌∙◌, ap, subst, inl, inr, ◌⊎◌, arith}
use Rattle.std.specs.List.{AllByRecursion, Contains}
use Rattle.std.proofs.lemmas.Bool.{cases_lt}
use Rattle.std.proofs.lemmas.List.Elements.{Contains-append_cases, Contains-append_left, Contains-append_right}
use Rattle.pol_data.proofs.Every.{every-contained}
use Rattle.pol_data.proofs.Members.{Contains-cases, Contains-here, Contains-later}
use Rattle.pol_entry_tally.specs.declared.counts.Count.{Count}
use Rattle.pol_entry_tally.specs.Affected.{Has}
use Rattle.pol_entry_tally.specs.Asking.{AreAsked, AreAskedUnder, AreBetween, AreOfOne, IsAsking, LiesUnder, locals, turned_locals, under_end}
use Rattle.pol_entry_tally.specs.Counts.{AreBefore, AreCounts, AreFrom, AreOf, Rises}
use Rattle.pol_entry_tally.specs.Numbers.{IsPlace}
use Rattle.pol_entry_tally.proofs.Merged.{first_turn}
use Rattle.pol_entry_tally.proofs.Turned.{place_small}

-- ---- the counts of a stretch of places
pub are_between : (from to : ℕ) (counts front rest own back : List Count) → counts ≡ front ++ rest → AreBefore from front → rest ≡ own ++ back → AreFrom to back → AreBetween from to counts own
are_between from to counts front rest own back first low second high =
    record { front = front; back = back; parts = first ∙ ap (λ l. front ++ l) second; before = low; behind = high }

module _ (from to : ℕ) (counts own : List Count) (stretch : AreBetween from to counts own) where
  in_stretch : (c : Count) → Contains counts c → from ≤ c.place → c.place < to → Contains own c
  in_stretch c there low high =
      elim (Contains-append_cases stretch.front (own ++ stretch.back) c (subst (λ l. Contains l c) stretch.parts there)) [
        | inl before ↦ (let less = every-contained (λ (d : Count). d.place < from) stretch.front c stretch.before before in absurd (omega (arith, low, less)))
        | inr rest ↦ elim (Contains-append_cases own stretch.back c rest) [
          | inl here ↦ here
          | inr behind ↦ (let more = every-contained (λ (d : Count). to ≤ d.place) stretch.back c stretch.behind behind in absurd (omega (arith, high, more)))
        ]
      ]

  of_stretch : (c : Count) → Contains own c → Contains counts c
  of_stretch c there =
      subst (λ l. Contains l c) (sym stretch.parts) (Contains-append_right stretch.front (own ++ stretch.back) c (Contains-append_left own stretch.back c there))

-- ---- where keys stand that have a count
counted_there : (cs : List Count) (n : ℕ) → Contains (locals cs) n → (c : Count) × Contains cs c × (c.place % 2 ^ 23 ≡ n)
counted_there [] n there = absurd (omega (arith, there.1))
counted_there (c ∷ cs) n there =
    elim (Contains-cases (c.place % 2 ^ 23) (locals cs) n there) [
      | inl here ↦ (c, Contains-here c cs, here)
      | inr later ↦ (let one = counted_there cs n later in (one.0, Contains-later c cs one.0 one.1, one.2))
    ]

there_counted : (cs : List Count) (c : Count) → Contains cs c → Contains (locals cs) (c.place % 2 ^ 23)
there_counted [] c there = absurd (omega (arith, there.1))
there_counted (d ∷ ds) c there =
    elim (Contains-cases d ds c there) [
      | inl here ↦ subst (λ (e : Count). Contains (locals (d ∷ ds)) (e.place % 2 ^ 23)) here (Contains-here (d.place % 2 ^ 23) (locals ds))
      | inr later ↦ Contains-later (d.place % 2 ^ 23) (locals ds) (c.place % 2 ^ 23) (there_counted ds c later)
    ]

local_there : (cs : List Count) (c : Count) (n : ℕ) → Contains cs c → c.place % 2 ^ 23 ≡ n → Contains (locals cs) n
local_there cs c n there is = subst (Contains (locals cs)) is (there_counted cs c there)

module _ (counts one two : List Count) (from to : ℕ) (are : AreCounts counts) (denies : AreBetween from to counts one)
    (allows : AreBetween (from + 2 ^ 23) (to + 2 ^ 23) counts two) (old mid new : List ℕ) (first : mid ≡ old ++ locals one) (second : new ≡ mid ++ locals two) where
  mid_stay : Has mid new
  mid_stay n there = subst (λ l. Contains l n) (sym second) (Contains-append_left mid (locals two) n there)

  pub stretch_stay : Has old new
  stretch_stay n there = mid_stay n (subst (λ l. Contains l n) (sym first) (Contains-append_left old (locals one) n there))

  by_kind : (p n : ℕ) → p < 2 ^ 24 → p % 2 ^ 23 ≡ n → (p ≡ n) ⊎ (p ≡ n + 2 ^ 23)
  by_kind p n small is = elim (cases_lt p (2 ^ 23)) [ inl less ↦ inl (omega (arith, less, is)) | inr more ↦ inr (omega (arith, more, small, is)) ]

  pub stretch_asked : AreAsked counts from to new
  stretch_asked n there low high =
      let c = counted_there counts n there in
      let place = every-contained (λ (d : Count). IsPlace d.place) counts c.0 are.places c.1 in
      let small : c.0.place < 2 ^ 24 = subst (λ p. p < 2 ^ 24) (sym place.3) (place_small place.0 place.1 place.2) in
      elim (by_kind c.0.place n small c.2) [
        | inl deny ↦
            mid_stay n (subst (λ l. Contains l n) (sym first) (Contains-append_right old (locals one) n
            (local_there one c.0 n (in_stretch from to counts one denies c.0 c.1 (omega (arith, deny, low)) (omega (arith, deny, high))) c.2)))
        | inr allow ↦
            subst (λ l. Contains l n) (sym second) (Contains-append_right mid (locals two) n
            (local_there two c.0 n (in_stretch (from + 2 ^ 23) (to + 2 ^ 23) counts two allows c.0 c.1 (omega (arith, allow, low)) (omega (arith, allow, high))) c.2))
      ]

  of_counts : (own : List Count) (n : ℕ) → ((c : Count) → Contains own c → Contains counts c) → Contains (locals own) n → Contains (old ++ locals counts) n
  of_counts own n of there =
      let c = counted_there own n there in
      Contains-append_right old (locals counts) n (local_there counts c.0 n (of c.0 c.1) c.2)

  pub stretch_no_more : Has new (old ++ locals counts)
  stretch_no_more n there =
      elim (Contains-append_cases mid (locals two) n (subst (λ l. Contains l n) second there)) [
        | inl before ↦ elim (Contains-append_cases old (locals one) n (subst (λ l. Contains l n) first before)) [
          | inl here ↦ Contains-append_left old (locals counts) n here
          | inr deny ↦ of_counts one n (of_stretch from to counts one denies) deny
        ]
        | inr allow ↦ of_counts two n (of_stretch (from + 2 ^ 23) (to + 2 ^ 23) counts two allows) allow
      ]

-- ---- one deny
pub asked_later : (counts : List Count) (place done : ℕ) (asked : List ℕ) (last : ℕ) → last ≤ place → AreAsked counts last done asked → AreAsked counts place done asked
asked_later counts place done asked last le own n there low high = own n there (omega (arith, le, low)) high

pub none_more : (counts : List Count) (asked : List ℕ) → Has asked (asked ++ locals counts)
none_more counts asked n there = Contains-append_left asked (locals counts) n there

-- ---- one turn after the other
pub asking_first : (counts : List Count) (turns start : List ℕ) → Rises turns → AreOfOne turns → IsAsking counts turns turns start start 0
asking_first counts turns start up of =
    record {
      last = 0;
      rises = up;
      of = of;
      low = lowest turns;
      own = λ n there low high. absurd (omega (arith, high));
      all = λ turn n there under given. inl there;
      stay = λ n there. there;
      no_more = none_more counts start;
    }
  where
    lowest : (ts : List ℕ) → AllByRecursion (λ turn. 0 ≤ turn / 2 % 2 ^ 24) ts
    lowest [] = tt
    lowest (t ∷ ts) = (omega arith, lowest ts)

later_place : (t u g : ℕ) → t / 2 ^ 25 ≡ g → u / 2 ^ 25 ≡ g → t ≤ u → t / 2 % 2 ^ 24 ≤ u / 2 % 2 ^ 24
later_place t u g own own' le = omega (arith, own, own', le)

later_places : (t g : ℕ) (us : List ℕ) → t / 2 ^ 25 ≡ g → AreOf g us → AllByRecursion (λ u. t ≤ u) us → AllByRecursion (λ u. t / 2 % 2 ^ 24 ≤ u / 2 % 2 ^ 24) us
later_places t g [] own of low = tt
later_places t g (u ∷ us) own of low = (later_place t u g own of.0 low.0, later_places t g us own of.1 low.1)

module _ (counts : List Count) (turns left next start asked new : List ℕ) (done to t : ℕ) (so_far : IsAsking counts turns left start asked done)
    (is : slice_get left 0 ≡ Some t) (behind : next ≡ drop 1 left)
    (all : (last : ℕ) → last ≤ t / 2 % 2 ^ 24 → AreAsked counts last done asked → AreAsked counts (t / 2 % 2 ^ 24) to new)
    (far : t / 2 % 2 ^ 24 < 2 ^ 23 → under_end (t / 2 % 2 ^ 24) ≤ to) (stay : Has asked new) (no_more : Has new (asked ++ locals counts)) where
  first : (rest : List ℕ) × (left ≡ t ∷ rest)
  first = first_turn left t is

  next_is : next ≡ first.0
  next_is = behind ∙ ap (drop 1) first.1

  up : Rises (t ∷ first.0)
  up = subst Rises first.1 so_far.rises

  of : AreOf so_far.of.0 (t ∷ first.0)
  of = subst (AreOf so_far.of.0) first.1 so_far.of.1

  own_now : AreAsked counts (t / 2 % 2 ^ 24) to new
  own_now = all so_far.last (subst (AllByRecursion (λ u. so_far.last ≤ u / 2 % 2 ^ 24)) first.1 so_far.low).0 so_far.own

  asked_or_left : (turn n : ℕ) → Contains turns turn → LiesUnder turn n → Contains (locals counts) n → Contains next turn ⊎ Contains new n
  asked_or_left turn n there under given =
      elim (so_far.all turn n there under given) [
        | inr before ↦ inr (stay n before)
        | inl among ↦ elim (Contains-cases t first.0 turn (subst (λ l. Contains l turn) first.1 among)) [
          | inr later ↦ inl (subst (λ l. Contains l turn) (sym next_is) later)
          | inl same ↦
              (let own : LiesUnder t n = subst (λ u. LiesUnder u n) (sym same) under in
              let end = far own.deny in
              let before = own.to in
              inr (own_now n given own.from (omega (arith, end, before))))
        ]
      ]

  pub asking_more : IsAsking counts turns next start new to
  asking_more =
      record {
        last = t / 2 % 2 ^ 24;
        rises = subst Rises (sym next_is) up.1;
        of = (so_far.of.0, subst (AreOf so_far.of.0) (sym next_is) of.1);
        low = subst (AllByRecursion (λ u. t / 2 % 2 ^ 24 ≤ u / 2 % 2 ^ 24)) (sym next_is) (later_places t so_far.of.0 first.0 of.0 of.1 up.0);
        own = own_now;
        all = asked_or_left;
        stay = λ n there. stay n (so_far.stay n there);
        no_more = λ n there. elim (Contains-append_cases asked (locals counts) n (no_more n there)) [
          | inl before ↦ so_far.no_more n before
          | inr given ↦ Contains-append_right start (locals counts) n given
        ];
      }

none_left : (ts : List ℕ) → slice_get ts 0 ≡ None → ts ≡ []
none_left [] is = refl
none_left (t ∷ ts) is = absurd (let wrong : ⊥ = cc in wrong)

pub all_asked : (counts : List Count) (turns left start asked : List ℕ) (done : ℕ) → IsAsking counts turns left start asked done → slice_get left 0 ≡ None → AreAskedUnder counts turns asked
all_asked counts turns left start asked done so_far is turn n there under given =
    elim (so_far.all turn n there under given) [
      | inl among ↦ (let none = subst (λ l. Contains l turn) (none_left left is) among in absurd (omega (arith, none.1)))
      | inr here ↦ here
    ]

-- ---- all of them
pub of_turned : (counts : List Count) (turns start mid listed last : List ℕ) → start ≡ [] → mid ≡ start ++ turned_locals turns → Has listed (mid ++ locals counts) → Has last listed
    → Has last (turned_locals turns ++ locals counts)
of_turned counts turns start mid listed last none first of same n there =
    subst (λ l. Contains (l ++ locals counts) n) (first ∙ ap (λ l. l ++ turned_locals turns) none) (of n (same n there))
