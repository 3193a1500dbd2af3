-- Counts with one of them changed, and with all of a group's turns.
use Rattle.std.proofs.Common.{◌≡◌, ℕ, ◌+◌, ◌-◌, ◌*◌, ◌/◌, ◌%◌, ◌^◌, ◌<◌, ◌≤◌, ◌==◌, Bool, true, false, cond, nat_lt, List, [], ◌∷◌, ◌++◌, length, slice_get, Some, None, refl, sym, ◌∙◌, ap, subst, inl, inr, arith, append-nil}
use Rattle.std.specs.List.{AllByRecursion}
use Rattle.std.proofs.lemmas.Bool.{both_ways, cases_Bool, cases_lt, eq-eqb, eqb-true, ne_eqb, lt-ltb}
use Rattle.std.proofs.lemmas.List.{append_assoc}
use Rattle.pol_entry_tally.specs.declared.counts.Count.{Count}
use Rattle.std.proofs.lemmas.Option.{same_Some}
use Rattle.std.proofs.lemmas.List.{length-append}
use Rattle.pol_ports.specs.declared.Direction.{Direction}
use Rattle.pol_ports.specs.declared.Direction.TheVariants.{Ingress, Egress}
use Rattle.pol_mapkey.specs.KeyProto.{proto_place}
use Rattle.pol_mapkey.specs.declared.Kind.{Kind}
use Rattle.pol_mapkey.specs.declared.MapKey.{MapKey}
use Rattle.pol_entry_tally.specs.Numbers.{IsPlace, code_of, dir_place, fits, group_of, kind_place, local_of}
use Rattle.pol_entry_tally.proofs.ByNumber.{fits_is, kind_small, local_small, proto_small}
use Rattle.pol_entry_tally.specs.Counts.{AreBefore, AreCounts, AreFrom, AreOf, AreTurns, Ascend, IsMerging, IsRunOf, IsTurn, IsTurnedAt, Rises, behind, counted, downs, times_at, turned, ups}
use Rattle.pol_entry_tally.proofs.AtPlaces.{above_from, at_behind, back_ascends, before_weaker, behind_above, behind_ascends, both_before, front_ascends, joined_ascend, more_ascend, none_at}
use Rattle.pol_entry_tally.proofs.InOrder.{all_back, none_below}

abbrev Places : List Count → Type 0
Places counts = AllByRecursion (λ c. IsPlace c.place) counts

-- at another place, what stands behind decides if nothing in front does
same_front : (p : ℕ) (fs one two : List Count) → times_at one p ≡ times_at two p → times_at (fs ++ one) p ≡ times_at (fs ++ two) p
same_front p [] one two same = same
same_front p (f ∷ fs) one two same = ap (λ n. cond (f.place == p) f.times n) (same_front p fs one two same)

counted_at : (place t : ℕ) (cs : List Count) → times_at cs place ≡ 0 → times_at (counted place t ++ cs) place ≡ t
counted_at place t cs none = by (nat_lt 0 t) refl
  where
    by : (b : Bool) → nat_lt 0 t ≡ b → times_at (cond b (record { place = place; times = t } ∷ []) [] ++ cs) place ≡ t
    by true some = ap (λ b. cond b t (times_at cs place)) (eq-eqb place place refl)
    by false not = none ∙ elim (cases_lt 0 t) [ inl more ↦ absurd (both_ways (nat_lt 0 t) not (lt-ltb 0 t more)) | inr least ↦ omega (arith, least) ]

counted_else : (place t p : ℕ) (cs : List Count) → (p ≡ place → ⊥) → times_at (counted place t ++ cs) p ≡ times_at cs p
counted_else place t p cs differs = by (nat_lt 0 t)
  where
    by : (b : Bool) → times_at (cond b (record { place = place; times = t } ∷ []) [] ++ cs) p ≡ times_at cs p
    by true = ap (λ b. cond b t (times_at cs p)) (ne_eqb place p (λ same. differs (sym same)))
    by false = refl

behind_else : (place p : ℕ) (cs : List Count) → (p ≡ place → ⊥) → times_at (behind place cs) p ≡ times_at cs p
behind_else place p [] differs = refl
behind_else place p (c ∷ cs) differs =
    elim (cases_Bool (c.place == place)) [
      | inl t ↦
          (let is : c.place ≡ place = eqb-true c.place place t in
          ap (λ b. times_at (cond b cs (c ∷ cs)) p) t ∙ sym (ap (λ b. cond b c.times (times_at cs p)) (ne_eqb c.place p (λ same. differs (sym same ∙ is)))))
      | inr f ↦ ap (λ b. times_at (cond b cs (c ∷ cs)) p) f
    ]

counted_ascend : (place t : ℕ) (cs : List Count) → AllByRecursion (λ c. place < c.place) cs → Ascend cs → Ascend (counted place t ++ cs)
counted_ascend place t cs above up = by (nat_lt 0 t)
  where
    by : (b : Bool) → Ascend (cond b (record { place = place; times = t } ∷ []) [] ++ cs)
    by true = more_ascend (record { place = place; times = t }) cs above up
    by false = up

counted_before : (place t : ℕ) → AreBefore (place + 1) (counted place t)
counted_before place t = by (nat_lt 0 t)
  where
    by : (b : Bool) → AreBefore (place + 1) (cond b (record { place = place; times = t } ∷ []) [])
    by true = (omega arith, tt)
    by false = tt

counted_from : (place t : ℕ) (cs : List Count) → AreFrom place cs → AreFrom place (counted place t ++ cs)
counted_from place t cs from = by (nat_lt 0 t)
  where
    by : (b : Bool) → AreFrom place (cond b (record { place = place; times = t } ∷ []) [] ++ cs)
    by true = (omega arith, from)
    by false = from

-- places of keys
places_front : (fs bs : List Count) → Places (fs ++ bs) → Places fs
places_front [] bs all = tt
places_front (f ∷ fs) bs all = (all.0, places_front fs bs all.1)

places_back : (fs bs : List Count) → Places (fs ++ bs) → Places bs
places_back [] bs all = all
places_back (f ∷ fs) bs all = places_back fs bs all.1

both_places : (fs bs : List Count) → Places fs → Places bs → Places (fs ++ bs)
both_places [] bs one two = two
both_places (f ∷ fs) bs one two = (one.0, both_places fs bs one.1 two)

behind_places : (p : ℕ) (cs : List Count) → Places cs → Places (behind p cs)
behind_places p [] all = tt
behind_places p (c ∷ cs) all = by (c.place == p)
  where
    by : (b : Bool) → Places (cond b cs (c ∷ cs))
    by true = all.1
    by false = all

counted_places : (place t : ℕ) (cs : List Count) → IsPlace place → Places cs → Places (counted place t ++ cs)
counted_places place t cs own all = by (nat_lt 0 t)
  where
    by : (b : Bool) → Places (cond b (record { place = place; times = t } ∷ []) [] ++ cs)
    by true = (own, all)
    by false = all

module _ (place u d t : ℕ) (done rest before from mid now left : List Count)
    (up : Ascend (done ++ rest)) (low : AreBefore place done)
    (parts : rest ≡ before ++ from) (low' : AreBefore place before) (high : AreFrom place from)
    (first : mid ≡ done ++ before) (then' : now ≡ mid ++ counted place t) (last : left ≡ behind place from)
    (made : t ≡ times_at from place + u - d) where
  abbrev front : List Count
  front = done ++ before

  front_low : AreBefore place front
  front_low = both_before place done before low low'

  was : done ++ rest ≡ front ++ from
  was = ap (λ l. done ++ l) parts ∙ sym (append_assoc done before from)

  is : now ++ left ≡ front ++ (counted place t ++ behind place from)
  is =
      (λ i. (then' ∙ ap (λ l. l ++ counted place t) first) i ++ last i) ∙ append_assoc front (counted place t) (behind place from)

  up_front : Ascend front
  up_front = front_ascends front from (subst Ascend was up)

  up_from : Ascend from
  up_from = back_ascends front from (subst Ascend was up)

  behind_high : AllByRecursion (λ (c : Count). place < c.place) (behind place from)
  behind_high = behind_above place from up_from high

  own_times : times_at (now ++ left) place ≡ times_at (done ++ rest) place + u - d
  own_times =
      ap (λ l. times_at l place) is ∙ at_behind place front (counted place t ++ behind place from) front_low
      ∙ counted_at place t (behind place from) (none_at place (behind place from) behind_high) ∙ made
      ∙ sym (ap (λ n. n + u - d) (ap (λ l. times_at l place) was ∙ at_behind place front from front_low))

  pub turned_at : IsTurnedAt place u d done rest now left
  turned_at = record {
    ascend = subst Ascend (sym is) (joined_ascend place front (counted place t ++ behind place from) up_front
        (counted_ascend place t (behind place from) behind_high (behind_ascends place from up_from)) front_low
        (counted_from place t (behind place from) (above_from place (behind place from) behind_high)));
    before = subst (AreBefore (place + 1)) (sym (then' ∙ ap (λ l. l ++ counted place t) first))
        (both_before (place + 1) front (counted place t) (before_weaker place (place + 1) front (omega arith) front_low) (counted_before place t));
    own = own_times;
    others = λ p differs. ap (λ l. times_at l p) is
        ∙ same_front p front (counted place t ++ behind place from) from (counted_else place t p (behind place from) differs ∙ behind_else place p from differs)
        ∙ sym (ap (λ l. times_at l p) was);
    places = λ own all. let whole = subst Places was all in
        subst Places (sym is) (both_places front (counted place t ++ behind place from) (places_front front from whole)
        (counted_places place t (behind place from) own (behind_places place from (places_back front from whole))));
  }

-- ---- the turns of a group, one code after the other
pub first_turn : (ts : List ℕ) (t : ℕ) → slice_get ts 0 ≡ Some t → (rest : List ℕ) × (ts ≡ t ∷ rest)
first_turn [] t is = absurd (let wrong : ⊥ = cc in wrong)
first_turn (u ∷ us) t is = (us, ap (λ x. x ∷ us) (same_Some u t is))

from_half : (t : ℕ) (ts : List ℕ) → AllByRecursion (λ u. t ≤ u) ts → AllByRecursion (λ u. t / 2 * 2 ≤ u) ts
from_half t [] all = tt
from_half t (u ∷ us) all = (let one = all.0 in omega (arith, one), from_half t us all.1)

pub from_code : (ts : List ℕ) (t : ℕ) → slice_get ts 0 ≡ Some t → Rises ts → AllByRecursion (λ u. t / 2 * 2 ≤ u) ts
from_code ts t is up =
    let first = first_turn ts t is in
    subst (AllByRecursion (λ u. t / 2 * 2 ≤ u)) (sym first.1) (omega arith, from_half t first.0 (subst Rises first.1 up).0)

code_low : (d i p b l k : ℕ) → d ≤ 1 → i < 2 ^ 32 → p ≤ 3 → b < 2 ^ 16 → l ≤ 16 → k ≤ 1 → (d * 2 ^ 32 + i) * 2 ^ 24 + (k * 2 ^ 23 + (p * 2 ^ 21 + b * 2 ^ 5 + l)) < 2 ^ 57
code_low d i p b l k d1 i1 p1 b1 l1 k1 = omega (arith, d1, i1, p1, b1, l1, k1)

dir_small : (d : Direction) → dir_place d ≤ 1
dir_small Ingress = omega arith
dir_small Egress = omega arith

pub code_small : (q : MapKey) (k : Kind) → fits q ≡ true → code_of q k < 2 ^ 57
code_small q k fit =
    let small = fits_is q fit in
    code_low (dir_place q.dir) q.id (proto_place q.proto) q.port.bits q.port.len (kind_place k) (dir_small q.dir) small.0 (proto_small q.proto) small.1 q.port.short (kind_small k)

pub turn_small : (ts : List ℕ) (t : ℕ) → slice_get ts 0 ≡ Some t → AreTurns ts → t / 2 < 2 ^ 57
turn_small ts t is all =
    let first = first_turn ts t is in
    let own = (subst AreTurns first.1 all).0 in
    subst (λ n. n < 2 ^ 57) (sym own.3) (code_small own.0 own.1 own.2)

-- its place is that of a key
place_there : (g k l : ℕ) → k ≤ 1 → l < 2 ^ 23 → (g * 2 ^ 24 + (k * 2 ^ 23 + l)) % 2 ^ 24 ≡ k * 2 ^ 23 + l
place_there g k l few small = omega (arith, few, small)

turn_place : (t : ℕ) → IsTurn t → IsPlace (t / 2 % 2 ^ 24)
turn_place t own =
    (own.0, own.1, own.2, ap (λ n. n % 2 ^ 24) own.3 ∙ place_there (group_of own.0) (kind_place own.1) (local_of own.0) (kind_small own.1) (local_small own.0 own.2))

pub first_before : (group : ℕ) (old : List Count) (given : List ℕ) (done rest : List Count) (left : List ℕ) (t : ℕ) → IsMerging group old given done rest left → slice_get left 0 ≡ Some t
    → AreBefore (t / 2 % 2 ^ 24) done
first_before group old given done rest left t m is =
    let first = first_turn left t is in
    (subst (AllByRecursion (λ turn. AreBefore (turn / 2 % 2 ^ 24) done)) first.1 m.before).0

all_before_none : (ts : List ℕ) → AllByRecursion (λ turn. AreBefore (turn / 2 % 2 ^ 24) []) ts
all_before_none [] = tt
all_before_none (t ∷ ts) = (tt, all_before_none ts)

pub merging_first : (group : ℕ) (old : List Count) (turns : List ℕ) (done : List Count) → done ≡ [] → AreCounts old → Rises turns → AreTurns turns → AreOf group turns
    → IsMerging group old turns done old turns
merging_first group old turns done none counts up all own =
    subst (λ d. IsMerging group old turns d old turns) (sym none) (record {
      ascend = counts.ascend;
      before = all_before_none turns;
      places = counts.places;
      rises = up;
      turns = all;
      own = own;
      times = λ p small. refl;
    })

-- what stands behind the first code has places behind its place
next_place : (t u g : ℕ) → t / 2 ^ 25 ≡ g → u / 2 ^ 25 ≡ g → t / 2 * 2 + 2 ≤ u → t / 2 % 2 ^ 24 + 1 ≤ u / 2 % 2 ^ 24
next_place t u g own own' more = omega (arith, own, own', more)

all_behind : (t g : ℕ) (now : List Count) (us : List ℕ) → t / 2 ^ 25 ≡ g → AreBefore (t / 2 % 2 ^ 24 + 1) now → AreOf g us → AllByRecursion (λ u. t / 2 * 2 + 2 ≤ u) us
    → AllByRecursion (λ turn. AreBefore (turn / 2 % 2 ^ 24) now) us
all_behind t g now [] own low of above = tt
all_behind t g now (u ∷ us) own low of above =
    (before_weaker (t / 2 % 2 ^ 24 + 1) (u / 2 % 2 ^ 24) now (next_place t u g own of.0 above.0) low, all_behind t g now us own low of.1 above.1)

code_is : (t g : ℕ) → t / 2 ^ 25 ≡ g → t / 2 ≡ g * 2 ^ 24 + t / 2 % 2 ^ 24
code_is t g own = omega (arith, own)

module _ (group : ℕ) (old : List Count) (given : List ℕ) (done rest now left' : List Count) (left others : List ℕ) (t u d : ℕ)
    (m : IsMerging group old given done rest left) (first : slice_get left 0 ≡ Some t) (run : IsRunOf (t / 2) left u d others)
    (at : IsTurnedAt (t / 2 % 2 ^ 24) u d done rest now left') where
  abbrev place : ℕ
  place = t / 2 % 2 ^ 24

  abbrev code : ℕ
  code = t / 2

  one : (ts : List ℕ) × (left ≡ t ∷ ts)
  one = first_turn left t first

  own : t / 2 ^ 25 ≡ group
  own = (subst (AreOf group) one.1 m.own).0

  of_others : AreOf group others
  of_others = all_back (λ u. u / 2 ^ 25 ≡ group) run.front others (subst (AreOf group) run.parts m.own)

  times_more : (p : ℕ) → turned group others (now ++ left') p ≡ turned group left (done ++ rest) p
  times_more p =
      elim (cases_lt p place) [
        | inl less ↦
            (let c_less : (group * 2 ^ 24 + p) * 2 + 1 < code * 2 = omega (arith, less, code_is t group own) in
            let none = none_below (code * 2 + 2) (group * 2 ^ 24 + p) others (omega (arith, c_less)) run.above in
            let none' = none_below (code * 2) (group * 2 ^ 24 + p) left c_less (from_code left t first m.rises) in
            omega (arith, none.0, none.1, none'.0, none'.1, at.others p (λ same. let is : p ≡ place = same in omega (arith, is, less))))
        | inr from ↦ elim (cases_lt place p) [
          | inl more ↦
              (let c_more : code < group * 2 ^ 24 + p = omega (arith, more, code_is t group own) in
              omega (arith, run.others_come (group * 2 ^ 24 + p) c_more, run.others_go (group * 2 ^ 24 + p) c_more, at.others p (λ same. let is : p ≡ place = same in omega (arith, is, more))))
          | inr to ↦
              (let same : p ≡ place = omega (arith, from, to) in
              let c_same : group * 2 ^ 24 + p ≡ code = omega (arith, same, code_is t group own) in
              let none = none_below (code * 2 + 2) (group * 2 ^ 24 + p) others (omega (arith, c_same)) run.above in
              let come : u ≡ ups left (group * 2 ^ 24 + p) = run.come ∙ ap (ups left) (sym c_same) in
              let go : d ≡ downs left (group * 2 ^ 24 + p) = run.go ∙ ap (downs left) (sym c_same) in
              let here : times_at (now ++ left') p ≡ times_at (done ++ rest) p + u - d = subst (λ n. times_at (now ++ left') n ≡ times_at (done ++ rest) n + u - d) (sym same) at.own in
              omega (arith, none.0, none.1, come, go, here))
        ]
      ]

  pub merging_more : IsMerging group old given now left' others
  merging_more = record {
    ascend = at.ascend;
    before = all_behind t group now others own at.before of_others run.above;
    places = at.places (turn_place t (subst AreTurns one.1 m.turns).0) m.places;
    rises = run.rises;
    turns = all_back IsTurn run.front others (subst AreTurns run.parts m.turns);
    own = of_others;
    times = λ p small. times_more p ∙ m.times p small;
  }

  pub fewer_left : length others < length left
  fewer_left = shorter run.front run.parts
    where
      shorter : (front : List ℕ) → left ≡ front ++ others → length others < length left
      shorter [] same =
          let same' : others ≡ t ∷ one.0 = sym same ∙ one.1 in
          let low = (subst (AllByRecursion (λ v. code * 2 + 2 ≤ v)) same' run.above).0 in
          absurd (omega (arith, low))
      shorter (f ∷ fs) same = omega (arith, ap (λ l. length l) same, length-append fs others)

pub none_left : (ts : List ℕ) → slice_get ts 0 ≡ None → ts ≡ []
none_left [] is = refl
none_left (t ∷ ts) is = absurd (let wrong : ⊥ = cc in wrong)

module _ (group : ℕ) (old : List Count) (given : List ℕ) (done rest : List Count) (left : List ℕ) (made : List Count)
    (m : IsMerging group old given done rest left) (none : slice_get left 0 ≡ None) (is : made ≡ done ++ rest) where
  pub merged_counts : AreCounts made
  merged_counts = subst AreCounts (sym is) (record { ascend = m.ascend; places = m.places })

  pub merged_times : (p : ℕ) → p < 2 ^ 24 → times_at made p ≡ turned group given old p
  merged_times p small =
      let last : turned group left (done ++ rest) p ≡ turned group [] (done ++ rest) p = ap (λ ts. turned group ts (done ++ rest) p) (none_left left none) in
      let same : times_at made p ≡ times_at (done ++ rest) p = ap (λ l. times_at l p) is in
      omega (arith, same, last, m.times p small)

-- ---- one code turns, and no other place has a count
empty_by : (ts : List ℕ) → length ts ≡ 0 → slice_get ts 0 ≡ None
empty_by [] none = refl
empty_by (t ∷ ts) none = absurd (omega (arith, none))

module _ (group : ℕ) (old : List Count) (turns others : List ℕ) (made : List Count) (t u d n : ℕ) (are : AreCounts old) (up : Rises turns) (all : AreTurns turns) (own : AreOf group turns)
    (first : slice_get turns 0 ≡ Some t) (run : IsRunOf (t / 2) turns u d others) (none : length others ≡ 0)
    (from : AreFrom (t / 2 % 2 ^ 24) old) (no_more : behind (t / 2 % 2 ^ 24) old ≡ []) (is : n ≡ times_at old (t / 2 % 2 ^ 24) + u - d) (counts : made ≡ counted (t / 2 % 2 ^ 24) n) where
  alone_merged : IsMerging group old turns made (behind (t / 2 % 2 ^ 24) old) others
  alone_merged =
      merging_more group old turns [] old made (behind (t / 2 % 2 ^ 24) old) turns others t u d (merging_first group old turns [] refl are up all own) first run
      (turned_at (t / 2 % 2 ^ 24) u d n [] old [] old [] made (behind (t / 2 % 2 ^ 24) old) are.ascend tt refl tt from refl counts refl is)

  whole : made ≡ made ++ behind (t / 2 % 2 ^ 24) old
  whole = sym (append-nil made) ∙ ap (λ l. made ++ l) (sym no_more)

  pub alone_counts : AreCounts made
  alone_counts = merged_counts group old turns made (behind (t / 2 % 2 ^ 24) old) others made alone_merged (empty_by others none) whole

  pub alone_times : (p : ℕ) → p < 2 ^ 24 → times_at made p ≡ turned group turns old p
  alone_times = merged_times group old turns made (behind (t / 2 % 2 ^ 24) old) others made alone_merged (empty_by others none) whole
