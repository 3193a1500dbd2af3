-- The counts of several groups, made before any of them is put.
use Rattle.std.proofs.Common.{◌≡◌, ℕ, ◌+◌, ◌*◌, ◌/◌, ◌^◌, ◌<◌, ◌≤◌, ◌==◌, Bool, true, false, cond, ◌||◌, List, [], ◌∷◌, ◌++◌, map, length, slice_get, Some, None, refl, sym, ◌∙◌, ap, subst, inl, inr, arith, append-nil}
use Rattle.std.specs.List.{AllByRecursion}
use Rattle.std.specs.List.Sorted.{IsStrictlySortedBy}
use Rattle.std.specs.Ordering.{nat_cmp}
use Rattle.std.specs.declared.cmp.Ordering.TheVariants.{Less}
use Rattle.std.proofs.lemmas.Bool.{both_ways, cases_Bool, cases_lt, eq-eqb, eqb-true, ne_eqb, or_parts}
use Rattle.std.proofs.lemmas.List.{length-append}
use Rattle.std.proofs.lemmas.List.Folds.{list_any-append}
use Rattle.pol_data.proofs.Every.{every-append, every-contained}
use Rattle.pol_map_changes.specs.declared.change.Change.{Change}
use Rattle.pol_entry_tally.specs.declared.counts.Count.{Count}
use Rattle.pol_entry_tally.specs.declared.many.Made.{Made}
use Rattle.pol_entry_tally.specs.declared.tally.Tally.{Tally}
use Rattle.pol_entry_tally.specs.Affected.{GoesOn}
use Rattle.pol_entry_tally.specs.Counted.{AreInOrder, HasPut, IsTurnedTo, SameCounts, is_open, of_group, times_after, times_of}
use Rattle.pol_entry_tally.specs.Counts.{AreCounts, AreOf, AreTurns, IsHeld, IsTurn, IsTurnedBy, Rises, counts_of, downs, times_at, turned, ups}
use Rattle.pol_entry_tally.specs.Gathering.{AreMade, AreOpen, IsFilling, IsGathering, IsMade, has_made, made_of}
use Rattle.pol_entry_tally.specs.Times.{Times}
use Rattle.pol_entry_tally.proofs.AtPlaces.{is_less, less_is, none_ascend}
use Rattle.pol_entry_tally.proofs.InOrder.{all_back, all_front, downs_append, none_above, none_below, rises_back, ups_append}
use Rattle.pol_entry_tally.proofs.Merged.{code_small, first_turn, none_left, turn_small}
use Rattle.pol_entry_tally.proofs.Turned.{none_turns}
use Rattle.pol_entry_tally.proofs.Ranges.{gap_goes_on, goes_further, held_after, held_before, none_differ}

abbrev groups_of : List Made → List ℕ
groups_of made = map (λ (one : Made). one.group) made

-- ---- each is put, the last one first
pub made_last : (rest : List Made) (one : Made) (g : ℕ) (counts : List Count) → made_of (rest ++ one ∷ []) g counts ≡ made_of rest g (cond (one.group == g) (counts_of one.counts) counts)
made_last [] one g counts = refl
made_last (r ∷ rs) one g counts = ap (λ l. cond (r.group == g) (counts_of r.counts) l) (made_last rs one g counts)

ascend_rest : (r : Made) (rs : List Made) → IsStrictlySortedBy nat_cmp (groups_of (r ∷ rs)) → AllByRecursion (λ g. nat_cmp r.group g ≡ Less) (groups_of rs) × IsStrictlySortedBy nat_cmp (groups_of rs)
unfolding IsStrictlySortedBy
ascend_rest r rs up = up

ascend_more : (r : Made) (rs : List Made) → AllByRecursion (λ g. nat_cmp r.group g ≡ Less) (groups_of rs) → IsStrictlySortedBy nat_cmp (groups_of rs) → IsStrictlySortedBy nat_cmp (groups_of (r ∷ rs))
unfolding IsStrictlySortedBy
ascend_more r rs above up = (above, up)

pub ascend_none : IsStrictlySortedBy nat_cmp (groups_of [])
unfolding IsStrictlySortedBy
ascend_none = tt

less_last : (g : ℕ) (rs : List Made) (one : Made) → AllByRecursion (λ h. nat_cmp g h ≡ Less) (groups_of (rs ++ one ∷ [])) → nat_cmp g one.group ≡ Less
less_last g [] one all = all.0
less_last g (r ∷ rs) one all = less_last g rs one all.1

less_front : (g : ℕ) (rs : List Made) (one : Made) → AllByRecursion (λ h. nat_cmp g h ≡ Less) (groups_of (rs ++ one ∷ [])) → AllByRecursion (λ h. nat_cmp g h ≡ Less) (groups_of rs)
less_front g [] one all = tt
less_front g (r ∷ rs) one all = (all.0, less_front g rs one all.1)

module _ (old new : Tally) (one : Made) (stay : (g : ℕ) → (g ≡ one.group → ⊥) → is_open old g ≡ true → is_open new g ≡ true) where
  pub still_open : (rest : List Made) → AllByRecursion (λ (m : Made). is_open old m.group ≡ true) (rest ++ one ∷ []) → IsStrictlySortedBy nat_cmp (groups_of (rest ++ one ∷ []))
      → AllByRecursion (λ (m : Made). is_open new m.group ≡ true) rest × IsStrictlySortedBy nat_cmp (groups_of rest)
  still_open [] opened up = (tt, ascend_none)
  still_open (r ∷ rs) opened up =
      let parts = ascend_rest r (rs ++ one ∷ []) up in
      let rest = still_open rs opened.1 parts.1 in
      let less : r.group < one.group = less_is r.group one.group (less_last r.group rs one parts.0) in
      ((stay r.group (λ same. omega (arith, less, same)) opened.0, rest.0), ascend_more r rs (less_front r.group rs one parts.0) rest.1)

  pub put_last : (made rest : List Made) (counts_is : made ≡ rest ++ one ∷ []) → AreOpen old made → AreOpen new rest
  put_last made rest is open' =
      let rest' = still_open rest (subst (AllByRecursion (λ (m : Made). is_open old m.group ≡ true)) is open'.opened) (subst (λ l. IsStrictlySortedBy nat_cmp (groups_of l)) is open'.ascend) in
      record { opened = rest'.0; ascend = rest'.1 }

pub put_makes : (first old new : Tally) (all made rest : List Made) (one : Made) → made ≡ rest ++ one ∷ [] → HasPut old new one.group (counts_of one.counts)
    → ((g : ℕ) → made_of made g (of_group old g) ≡ made_of all g (of_group first g)) → (g : ℕ) → made_of rest g (of_group new g) ≡ made_of all g (of_group first g)
put_makes first old new all made rest one is put so_far g =
    ap (made_of rest g) (put g) ∙ sym (ap (λ l. made_of l g (of_group old g)) is ∙ made_last rest one g (of_group old g)) ∙ so_far g

-- ---- what all of them make
pub made_in_order : (old : Tally) (turns : List ℕ) (made : List Made) (g : ℕ) (counts : List Count) → AllByRecursion (IsMade old turns) made → AreCounts counts → AreCounts (made_of made g counts)
made_in_order old turns [] g counts each are = are
made_in_order old turns (m ∷ ms) g counts each are = by (m.group == g) (made_in_order old turns ms g counts each.1 are)
  where
    by : (b : Bool) → AreCounts (made_of ms g counts) → AreCounts (cond b (counts_of m.counts) (made_of ms g counts))
    by true rest = each.0.counts
    by false rest = rest

made_turned : (old : Tally) (turns : List ℕ) (made : List Made) (g p : ℕ) (counts : List Count) → AllByRecursion (IsMade old turns) made → p < 2 ^ 24
    → (has_made g made ≡ false → times_at counts p ≡ turned g turns (of_group old g) p) → times_at (made_of made g counts) p ≡ turned g turns (of_group old g) p
made_turned old turns [] g p counts each small none = none refl
made_turned old turns (m ∷ ms) g p counts each small none = by (m.group == g) refl (made_turned old turns ms g p counts each.1 small)
  where
    by : (b : Bool) → (m.group == g) ≡ b
        → ((has_made g ms ≡ false → times_at counts p ≡ turned g turns (of_group old g) p) → times_at (made_of ms g counts) p ≡ turned g turns (of_group old g) p)
        → times_at (cond b (counts_of m.counts) (made_of ms g counts)) p ≡ turned g turns (of_group old g) p
    by true t rest =
        let same : m.group ≡ g = eqb-true m.group g t in
        each.0.turned p small ∙ ap (λ n. turned n turns (of_group old n) p) same
    by false f rest = rest (λ without. none ((λ i. f i || has_made g ms) ∙ without))

module _ (old mid new : Tally) (turns : List ℕ) (to : ℕ) (made : List Made) (same : SameCounts old mid) (are : AreMade old turns to made)
    (put : (g : ℕ) → of_group new g ≡ made_of made g (of_group mid g)) where
  new_is : (g : ℕ) → of_group new g ≡ made_of made g (of_group old g)
  new_is g = put g ∙ ap (made_of made g) (same g)

  pub settled_in_order : AreInOrder old → AreInOrder new
  settled_in_order order g = subst AreCounts (sym (new_is g)) (made_in_order old turns made g (of_group old g) are.each (order g))

  pub settled_turned : ((g : ℕ) → to ≤ g → (p : ℕ) → p < 2 ^ 24 → (ups turns (g * 2 ^ 24 + p) ≡ 0) × (downs turns (g * 2 ^ 24 + p) ≡ 0)) → IsTurnedTo old turns new
  settled_turned far g p small =
      ap (λ l. times_at l p) (new_is g)
      ∙ made_turned old turns made g p (of_group old g) are.each small (λ none.
      let zero : (ups turns (g * 2 ^ 24 + p) ≡ 0) × (downs turns (g * 2 ^ 24 + p) ≡ 0) = elim (cases_lt g to) [ inl less ↦ are.others g p less small none | inr more ↦ far g more p small ] in
      omega (arith, zero.0, zero.1))

-- no turn is of a group that no key has
pub far_none : (turns : List ℕ) → AreTurns turns → (g : ℕ) → 2 ^ 33 ≤ g → (p : ℕ) → p < 2 ^ 24 → (ups turns (g * 2 ^ 24 + p) ≡ 0) × (downs turns (g * 2 ^ 24 + p) ≡ 0)
far_none turns all g far p small =
    none_turns turns (g * 2 ^ 24 + p) (λ t there half.
    let own = every-contained IsTurn turns t all there in
    let low = code_small own.0 own.1 own.2 in
    omega (arith, low, own.3, half, far))

-- ---- one group more
pub gathering_first : (old : Tally) (turns : List ℕ) (made : List Made) (list : List Change) (size : ℕ) → made ≡ [] → Rises turns → AreTurns turns → IsGathering old old turns turns made list list size size
gathering_first old turns made list size none up all =
    subst (λ m. IsGathering old old turns turns m list list size size) (sym none) (record {
      to = 0;
      most = omega arith;
      same = λ g. refl;
      rises = up;
      are_turns = all;
      low = from_zero turns;
      come = λ c le. refl;
      go = λ c le. refl;
      are_made = record { each = tt; below = tt; others = λ g p less. absurd (omega (arith, less)) };
      are_open = record { opened = tt; ascend = ascend_none };
      goes = none_differ (times_of old) (times_after old turns) (0 * 2 ^ 23) (0 * 2 ^ 23) list size (λ q fit low high. absurd (omega (arith, low, high)));
    })
  where
    from_zero : (ts : List ℕ) → AllByRecursion (λ t. 0 * 2 ^ 25 ≤ t) ts
    from_zero [] = tt
    from_zero (t ∷ ts) = (omega arith, from_zero ts)

from_group : (t : ℕ) (us : List ℕ) → AllByRecursion (λ u. t ≤ u) us → AllByRecursion (λ u. t / 2 ^ 25 * 2 ^ 25 ≤ u) us
from_group t [] all = tt
from_group t (u ∷ us) all = (let one = all.0 in omega (arith, one), from_group t us all.1)

of_one : (g : ℕ) (us : List ℕ) → AllByRecursion (λ u. g * 2 ^ 25 ≤ u) us → AllByRecursion (λ u. u < (g + 1) * 2 ^ 25) us → AreOf g us
of_one g [] low high = tt
of_one g (u ∷ us) low high = (let one = low.0 in let two = high.0 in omega (arith, one, two), of_one g us low.1 high.1)

pub from_first : (ts : List ℕ) (t : ℕ) → slice_get ts 0 ≡ Some t → Rises ts → AllByRecursion (λ u. t / 2 ^ 25 * 2 ^ 25 ≤ u) ts
from_first ts t is up =
    let first = first_turn ts t is in
    subst (AllByRecursion (λ u. t / 2 ^ 25 * 2 ^ 25 ≤ u)) (sym first.1) (omega arith, from_group t first.0 (subst Rises first.1 up).0)

pub own_of : (ts own others : List ℕ) (t : ℕ) → slice_get ts 0 ≡ Some t → Rises ts → ts ≡ own ++ others → AllByRecursion (λ u. u < (t / 2 ^ 25 + 1) * 2 ^ 25) own → AreOf (t / 2 ^ 25) own
own_of ts own others t is up parts high =
    of_one (t / 2 ^ 25) own (all_front (λ u. t / 2 ^ 25 * 2 ^ 25 ≤ u) own others (subst (AllByRecursion (λ u. t / 2 ^ 25 * 2 ^ 25 ≤ u)) parts (from_first ts t is up))) high

pub group_small : (ts : List ℕ) (t : ℕ) → slice_get ts 0 ≡ Some t → AreTurns ts → t / 2 ^ 25 < 2 ^ 33
group_small ts t is all = let half = turn_small ts t is all in omega (arith, half)

module _ (old now now' : Tally) (turns left own others : List ℕ) (made made' : List Made) (list more more' : List Change) (size grown grown' : ℕ) (t : ℕ) (one : Made)
    (m : IsGathering old now turns left made list more size grown) (first : slice_get left 0 ≡ Some t) (parts : left ≡ own ++ others)
    (low : AllByRecursion (λ u. u < (t / 2 ^ 25 + 1) * 2 ^ 25) own) (high : AllByRecursion (λ u. (t / 2 ^ 25 + 1) * 2 ^ 25 ≤ u) others)
    (same' : SameCounts now now') (stay : (g : ℕ) → is_open now g ≡ true → is_open now' g ≡ true) (opened : is_open now' (t / 2 ^ 25) ≡ true)
    (pushed : made' ≡ made ++ one ∷ []) (of : one.group ≡ t / 2 ^ 25) (counts : AreCounts (counts_of one.counts))
    (moved : IsTurnedBy (t / 2 ^ 25) own (of_group now (t / 2 ^ 25)) (counts_of one.counts))
    (listed : (before after : Times) → IsHeld (t / 2 ^ 25) (of_group now (t / 2 ^ 25)) before → IsHeld (t / 2 ^ 25) (counts_of one.counts) after
    → GoesOn before after (t / 2 ^ 25 * 2 ^ 23) ((t / 2 ^ 25 + 1) * 2 ^ 23) more more' grown grown') where
  abbrev group : ℕ
  group = t / 2 ^ 25

  from : m.to ≤ group
  from =
      let one' = first_turn left t first in
      let le = (subst (AllByRecursion (λ u. m.to * 2 ^ 25 ≤ u)) one'.1 m.low).0 in
      omega (arith, le)

  all_from : AllByRecursion (λ u. group * 2 ^ 25 ≤ u) left
  all_from = from_first left t first m.rises

  ups_left : (c : ℕ) → ups left c ≡ ups own c + ups others c
  ups_left c = ap (λ l. ups l c) parts ∙ ups_append c own others

  downs_left : (c : ℕ) → downs left c ≡ downs own c + downs others c
  downs_left c = ap (λ l. downs l c) parts ∙ downs_append c own others

  -- no turn is of the groups between
  none_between : (n p : ℕ) → m.to ≤ n → n < group → p < 2 ^ 24 → (ups turns (n * 2 ^ 24 + p) ≡ 0) × (downs turns (n * 2 ^ 24 + p) ≡ 0)
  none_between n p le less small =
      let none = none_below (group * 2 ^ 25) (n * 2 ^ 24 + p) left (omega (arith, less, small)) all_from in
      (m.come (n * 2 ^ 24 + p) (omega (arith, le)) ∙ none.0, m.go (n * 2 ^ 24 + p) (omega (arith, le)) ∙ none.1)

  moved_all : IsTurnedBy group turns (of_group old group) (counts_of one.counts)
  moved_all p small =
      let c = group * 2 ^ 24 + p in
      let none = none_below ((group + 1) * 2 ^ 25) c others (omega (arith, small)) high in
      let is : times_at (of_group now group) p ≡ times_at (of_group old group) p = ap (λ l. times_at l p) (m.same group) in
      omega (arith, moved p small, is, m.come c (omega (arith, from)), m.go c (omega (arith, from)), ups_left c, downs_left c, none.0, none.1)

  goes_now : GoesOn (times_of old) (times_after old turns) (0 * 2 ^ 23) ((group + 1) * 2 ^ 23) list more' size grown'
  goes_now =
      goes_further (0 * 2 ^ 23) (group * 2 ^ 23) ((group + 1) * 2 ^ 23) (omega arith) (omega arith) (times_of old) (times_after old turns) list more more' size grown grown'
      (goes_further (0 * 2 ^ 23) (m.to * 2 ^ 23) (group * 2 ^ 23) (omega arith) (omega (arith, from)) (times_of old) (times_after old turns) list more more size grown grown m.goes
      (gap_goes_on old turns m.to group more grown none_between))
      (listed (times_of old) (times_after old turns)
      (subst (λ l. IsHeld group l (times_of old)) (sym (m.same group)) (held_before old group))
      (held_after old turns group (counts_of one.counts) moved_all))

  wider : (ms : List Made) → AllByRecursion (λ (x : Made). x.group < m.to) ms → AllByRecursion (λ (x : Made). x.group < group + 1) ms
  wider [] all = tt
  wider (x ∷ xs) all = (let less = all.0 in omega (arith, less, from), wider xs all.1)

  above_new : (x : ℕ) (ms : List Made) → x < group → AllByRecursion (λ h. nat_cmp x h ≡ Less) (groups_of ms) → AllByRecursion (λ h. nat_cmp x h ≡ Less) (groups_of (ms ++ one ∷ []))
  above_new x [] less all = (is_less x one.group (omega (arith, less, of)), tt)
  above_new x (y ∷ ys) less all = (all.0, above_new x ys less all.1)

  ascends_new : (ms : List Made) → AllByRecursion (λ (x : Made). x.group < m.to) ms → IsStrictlySortedBy nat_cmp (groups_of ms) → IsStrictlySortedBy nat_cmp (groups_of (ms ++ one ∷ []))
  ascends_new [] all up = ascend_more one [] tt ascend_none
  ascends_new (x ∷ xs) all up =
      let rest = ascend_rest x xs up in
      let less = all.0 in
      ascend_more x (xs ++ one ∷ []) (above_new x.group xs (omega (arith, less, from)) rest.0) (ascends_new xs all.1 rest.1)

  opened_now : (ms : List Made) → AllByRecursion (λ (x : Made). is_open now x.group ≡ true) ms → AllByRecursion (λ (x : Made). is_open now' x.group ≡ true) ms
  opened_now [] all = tt
  opened_now (x ∷ xs) all = (stay x.group all.0, opened_now xs all.1)

  others_now : (g p : ℕ) → g < group + 1 → p < 2 ^ 24 → has_made g (made ++ one ∷ []) ≡ false → (ups turns (g * 2 ^ 24 + p) ≡ 0) × (downs turns (g * 2 ^ 24 + p) ≡ 0)
  others_now g p less small none =
      let both = or_parts (has_made g made) (has_made g (one ∷ [])) (sym (list_any-append (λ (x : Made). x.group == g) made (one ∷ [])) ∙ none) in
      let apart : (g ≡ group → ⊥) = λ same. both_ways (one.group == g) (or_parts (one.group == g) false both.1).0 (eq-eqb one.group g (of ∙ sym same)) in
      elim (cases_lt g m.to) [
        | inl low' ↦ m.are_made.others g p low' small both.0
        | inr high' ↦ elim (cases_lt g group) [ inl below ↦ none_between g p high' below small | inr not ↦ absurd (apart (omega (arith, less, not))) ]
      ]

  pub gathering_more : group < 2 ^ 33 → IsGathering old now' turns others made' list more' size grown'
  gathering_more most =
      subst (λ ms. IsGathering old now' turns others ms list more' size grown') (sym pushed) (record {
        to = group + 1;
        most = omega (arith, most);
        same = λ g. same' g ∙ m.same g;
        rises = rises_back own others (subst Rises parts m.rises);
        are_turns = all_back IsTurn own others (subst AreTurns parts m.are_turns);
        low = high;
        come = λ c le. (let none = none_above ((group + 1) * 2 ^ 25) c own (omega (arith, le)) low in omega (arith, m.come c (omega (arith, le, from)), ups_left c, none.0));
        go = λ c le. (let none = none_above ((group + 1) * 2 ^ 25) c own (omega (arith, le)) low in omega (arith, m.go c (omega (arith, le, from)), downs_left c, none.1));
        are_made = record {
          each = every-append (IsMade old turns) made (one ∷ []) m.are_made.each (record { counts = counts; turned = subst (λ n. IsTurnedBy n turns (of_group old n) (counts_of one.counts)) (sym of) moved_all }, tt);
          below = every-append (λ (x : Made). x.group < group + 1) made (one ∷ []) (wider made m.are_made.below) (omega (arith, of), tt);
          others = others_now;
        };
        are_open = record {
          opened = every-append (λ (x : Made). is_open now' x.group ≡ true) made (one ∷ []) (opened_now made m.are_open.opened) (subst (λ n. is_open now' n ≡ true) (sym of) opened, tt);
          ascend = ascends_new made m.are_made.below m.are_open.ascend;
        };
        goes = goes_now;
      })

  pub fewer : length others < length left
  fewer = by own parts low
    where
      by : (xs : List ℕ) → left ≡ xs ++ others → AllByRecursion (λ u. u < (group + 1) * 2 ^ 25) xs → length others < length left
      by [] same all =
          let first' = first_turn left t first in
          let wrong = (subst (AllByRecursion (λ u. (group + 1) * 2 ^ 25 ≤ u)) (sym same ∙ first'.1) high).0 in
          absurd (omega (arith, wrong))
      by (x ∷ xs) same all = omega (arith, ap (λ l. length l) same, length-append xs others)

module _ (old now : Tally) (turns left : List ℕ) (made : List Made) (list more : List Change) (size grown : ℕ)
    (m : IsGathering old now turns left made list more size grown) (none : slice_get left 0 ≡ None) where
  far : (g : ℕ) → m.to ≤ g → (p : ℕ) → p < 2 ^ 24 → (ups turns (g * 2 ^ 24 + p) ≡ 0) × (downs turns (g * 2 ^ 24 + p) ≡ 0)
  far g le p small =
      let empty = none_left left none in
      (m.come (g * 2 ^ 24 + p) (omega (arith, le)) ∙ ap (λ l. ups l (g * 2 ^ 24 + p)) empty, m.go (g * 2 ^ 24 + p) (omega (arith, le)) ∙ ap (λ l. downs l (g * 2 ^ 24 + p)) empty)

  pub all_made : AreMade old turns (2 ^ 33) made
  all_made = record {
    each = m.are_made.each;
    below = wider made m.are_made.below;
    others = λ g p less small without. elim (cases_lt g m.to) [ inl low ↦ m.are_made.others g p low small without | inr high ↦ far g high p small ];
  }
    where
      wider : (ms : List Made) → AllByRecursion (λ (x : Made). x.group < m.to) ms → AllByRecursion (λ (x : Made). x.group < 2 ^ 33) ms
      wider [] all = tt
      wider (x ∷ xs) all = (let less = all.0 in omega (arith, less, m.most), wider xs all.1)

  pub goes_to_end : GoesOn (times_of old) (times_after old turns) (0 * 2 ^ 23) (2 ^ 33 * 2 ^ 23) list more size grown
  goes_to_end =
      goes_further (0 * 2 ^ 23) (m.to * 2 ^ 23) (2 ^ 33 * 2 ^ 23) (omega arith) (omega (arith, m.most)) (times_of old) (times_after old turns) list more more size grown grown m.goes
      (gap_goes_on old turns m.to (2 ^ 33) more grown (λ n p low high small. far n low p small))

-- ---- a tally of no entries is filled
module _ (old : Tally) (none_old : (g : ℕ) → of_group old g ≡ []) where
  pub filling_first : (turns : List ℕ) → Rises turns → AreTurns turns → IsFilling old old turns turns
  filling_first turns up all = record {
    to = 0;
    order = λ g. subst AreCounts (sym (none_old g)) (record { ascend = none_ascend; places = tt });
    rises = up;
    are_turns = all;
    low = from_zero turns;
    come = λ c le. refl;
    go = λ c le. refl;
    done = λ g less. absurd (omega (arith, less));
    same = λ g le. refl;
  }
    where
      from_zero : (ts : List ℕ) → AllByRecursion (λ t. 0 * 2 ^ 25 ≤ t) ts
      from_zero [] = tt
      from_zero (t ∷ ts) = (omega arith, from_zero ts)

  module _ (now new : Tally) (turns left own others : List ℕ) (t : ℕ) (counts : List Count) (m : IsFilling old now turns left) (first : slice_get left 0 ≡ Some t) (parts : left ≡ own ++ others)
      (low : AllByRecursion (λ u. u < (t / 2 ^ 25 + 1) * 2 ^ 25) own) (high : AllByRecursion (λ u. (t / 2 ^ 25 + 1) * 2 ^ 25 ≤ u) others)
      (are : AreCounts counts) (moved : IsTurnedBy (t / 2 ^ 25) own [] counts) (put : HasPut now new (t / 2 ^ 25) counts) where
    abbrev at : ℕ
    at = t / 2 ^ 25

    from_to : m.to ≤ at
    from_to =
        let one' = first_turn left t first in
        let le = (subst (AllByRecursion (λ u. m.to * 2 ^ 25 ≤ u)) one'.1 m.low).0 in
        omega (arith, le)

    ups_both : (c : ℕ) → ups left c ≡ ups own c + ups others c
    ups_both c = ap (λ l. ups l c) parts ∙ ups_append c own others

    downs_both : (c : ℕ) → downs left c ≡ downs own c + downs others c
    downs_both c = ap (λ l. downs l c) parts ∙ downs_append c own others

    moved_here : IsTurnedBy at turns (of_group old at) counts
    moved_here p small =
        let c = at * 2 ^ 24 + p in
        let none = none_below ((at + 1) * 2 ^ 25) c others (omega (arith, small)) high in
        let is : times_at (of_group old at) p ≡ 0 = ap (λ l. times_at l p) (none_old at) in
        omega (arith, moved p small, is, m.come c (omega (arith, from_to)), m.go c (omega (arith, from_to)), ups_both c, downs_both c, none.0, none.1)

    put_else : (g : ℕ) → (at ≡ g → ⊥) → of_group new g ≡ of_group now g
    put_else g differs = put g ∙ ap (λ b. cond b counts (of_group now g)) (ne_eqb at g differs)

    done_now : (g : ℕ) → g < at + 1 → IsTurnedBy g turns (of_group old g) (of_group new g)
    done_now g less p small =
        elim (cases_Bool (at == g)) [
          | inl t' ↦
              (let same : at ≡ g = eqb-true at g t' in
              ap (λ l. times_at l p) (put g ∙ ap (λ b. cond b counts (of_group now g)) t') ∙ moved_here p small ∙ ap (λ n. turned n turns (of_group old n) p) same)
          | inr f ↦
              (let differs : (at ≡ g → ⊥) = λ same. both_ways (at == g) f (eq-eqb at g same) in
              ap (λ l. times_at l p) (put_else g differs) ∙ elim (cases_lt g m.to) [
                | inl low' ↦ m.done g low' p small
                | inr high' ↦
                    (let below : g < at = elim (cases_lt g at) [ inl b ↦ b | inr not ↦ absurd (differs (omega (arith, less, not))) ] in
                    let none = none_below (at * 2 ^ 25) (g * 2 ^ 24 + p) left (omega (arith, below, small)) (from_first left t first m.rises) in
                    let is : times_at (of_group now g) p ≡ times_at (of_group old g) p = ap (λ l. times_at l p) (m.same g high') in
                    omega (arith, is, m.come (g * 2 ^ 24 + p) (omega (arith, high')), m.go (g * 2 ^ 24 + p) (omega (arith, high')), none.0, none.1))
              ])
        ]

    pub filling_more : IsFilling old new turns others
    filling_more = record {
      to = at + 1;
      order = λ g. elim (cases_Bool (at == g)) [
        | inl t' ↦ subst AreCounts (sym (put g ∙ ap (λ b. cond b counts (of_group now g)) t')) are
        | inr f ↦ subst AreCounts (sym (put g ∙ ap (λ b. cond b counts (of_group now g)) f)) (m.order g)
      ];
      rises = rises_back own others (subst Rises parts m.rises);
      are_turns = all_back IsTurn own others (subst AreTurns parts m.are_turns);
      low = high;
      come = λ c le. (let none = none_above ((at + 1) * 2 ^ 25) c own (omega (arith, le)) low in omega (arith, m.come c (omega (arith, le, from_to)), ups_both c, none.0));
      go = λ c le. (let none = none_above ((at + 1) * 2 ^ 25) c own (omega (arith, le)) low in omega (arith, m.go c (omega (arith, le, from_to)), downs_both c, none.1));
      done = done_now;
      same = λ g le. put_else g (λ same. omega (arith, same, le)) ∙ m.same g (omega (arith, le, from_to));
    }

  pub filling_last : (now : Tally) (turns left : List ℕ) → IsFilling old now turns left → slice_get left 0 ≡ None → IsTurnedTo old turns now
  filling_last now turns left m none g p small =
      elim (cases_lt g m.to) [
        | inl low ↦ m.done g low p small
        | inr high ↦
            (let empty = none_left left none in
            let come : ups turns (g * 2 ^ 24 + p) ≡ 0 = m.come (g * 2 ^ 24 + p) (omega (arith, high)) ∙ ap (λ l. ups l (g * 2 ^ 24 + p)) empty in
            let go : downs turns (g * 2 ^ 24 + p) ≡ 0 = m.go (g * 2 ^ 24 + p) (omega (arith, high)) ∙ ap (λ l. downs l (g * 2 ^ 24 + p)) empty in
            let is : times_at (of_group now g) p ≡ times_at (of_group old g) p = ap (λ l. times_at l p) (m.same g high) in
            omega (arith, is, come, go))
      ]

-- the turns are all of one group
pub all_of_one : (ts own others : List ℕ) (t : ℕ) → slice_get ts 0 ≡ Some t → Rises ts → ts ≡ own ++ others → AllByRecursion (λ u. u < (t / 2 ^ 25 + 1) * 2 ^ 25) own → length others ≡ 0
    → AreOf (t / 2 ^ 25) ts
all_of_one ts own [] t is up parts high none = subst (AreOf (t / 2 ^ 25)) (sym (parts ∙ append-nil own)) (own_of ts own [] t is up parts high)
all_of_one ts own (o ∷ os) t is up parts high none = absurd (omega (arith, none))
