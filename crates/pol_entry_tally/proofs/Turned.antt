-- Which keys of a group stay as they are, where some of them turn.
use Rattle.std.proofs.Common.{◌≡◌, ℕ, ◌+◌, ◌*◌, ◌/◌, ◌%◌, ◌^◌, ◌<◌, ◌≤◌, ◌==◌, Bool, true, false, cond, nat_lt, List, [], ◌∷◌, ◌++◌, map, None, refl, sym, ◌∙◌, ap, subst, ◌⊎◌, inl, inr, arith}
use Rattle.std.specs.List.{AllByRecursion, Contains}
use Rattle.std.specs.List.Sorted.{IsStrictlySortedBy}
use Rattle.std.specs.Ordering.{nat_cmp}
use Rattle.std.proofs.lemmas.Bool.{both_ways, cases_Bool, eq-eqb, eqb-true, ne_eqb, or_cases, or_left, or_right}
use Rattle.std.proofs.lemmas.List.Elements.{Contains-append_left}
use Rattle.pol_data.proofs.Counts.{count_by-cons}
use Rattle.pol_data.proofs.Members.{Contains-cases, Contains-here, Contains-later}
use Rattle.pol_mapkey.specs.declared.Kind.{Kind}
use Rattle.pol_mapkey.specs.declared.Kind.TheVariants.{Allow, Deny}
use Rattle.pol_mapkey.specs.declared.MapKey.{MapKey}
use Rattle.pol_map_changes.specs.declared.change.Change.{Change}
use Rattle.pol_entry_tally.specs.declared.counts.Count.{Count}
use Rattle.pol_entry_tally.specs.Numbers.{IsPlace, code_of, dir_place, fits, group_of, kind_place, local_of, place_of}
use Rattle.pol_entry_tally.specs.Counts.{AreCounts, AreTurns, IsHeld, IsTurn, IsTurnedBy, downs, held, times_at, ups}
use Rattle.pol_entry_tally.specs.Affected.{GoesOn, Has, IsLocal, changes_in, has_number}
use Rattle.pol_entry_tally.specs.Asking.{AreAskedUnder, locals, turned_locals, under_end}
use Rattle.pol_entry_tally.specs.Sizes.{clear_count, new_count}
use Rattle.pol_entry_tally.specs.Times.{Times, is_given, is_under, kind_by, kind_of}
use Rattle.pol_entry_tally.proofs.ByNumber.{kind_small, local_small}
use Rattle.pol_entry_tally.proofs.Near.{IsNear, under_near}
use Rattle.pol_entry_tally.proofs.OfGroup.{group_goes_on}

-- ---- a code that no turn has
pub none_turns : (ts : List ℕ) (c : ℕ) → ((t : ℕ) → Contains ts t → t / 2 ≡ c → ⊥) → (ups ts c ≡ 0) × (downs ts c ≡ 0)
none_turns [] c none = (refl, refl)
none_turns (t ∷ ts) c none =
    let rest = none_turns ts c (λ u there. none u (Contains-later t ts u there)) in
    let own = none t (Contains-here t ts) in (
      count_by-cons (λ u. u == c * 2) t ts ∙ (λ i. cond (ne_eqb t (c * 2) (λ same. let is : t ≡ c * 2 = same in own (omega (arith, is))) i) 1 0 + rest.0 i),
      count_by-cons (λ u. u == c * 2 + 1) t ts ∙ (λ i. cond (ne_eqb t (c * 2 + 1) (λ same. let is : t ≡ c * 2 + 1 = same in own (omega (arith, is))) i) 1 0 + rest.1 i),
    )

local_digit : (g k l : ℕ) → k ≤ 1 → l < 2 ^ 23 → (g * 2 ^ 24 + (k * 2 ^ 23 + l)) % 2 ^ 23 ≡ l
local_digit g k l few small = omega (arith, few, small)

place_digit : (k l : ℕ) → k ≤ 1 → l < 2 ^ 23 → (k * 2 ^ 23 + l) % 2 ^ 23 ≡ l
place_digit k l few small = omega (arith, few, small)

deny_digit : (g l : ℕ) → l < 2 ^ 23 → (g * 2 ^ 24 + (0 * 2 ^ 23 + l)) % 2 ^ 24 ≡ l
deny_digit g l small = omega (arith, small)

mapped : (f : ℕ → ℕ) (ts : List ℕ) (t : ℕ) → Contains ts t → Contains (map f ts) (f t)
mapped f [] t there = absurd (omega (arith, there.1))
mapped f (u ∷ us) t there =
    elim (Contains-cases u us t there) [
      | inl here ↦ subst (λ n. Contains (f u ∷ map f us) (f n)) here (Contains-here (f u) (map f us))
      | inr later ↦ Contains-later (f u) (map f us) (f t) (mapped f us t later)
    ]

every-there : (P : ℕ → Type 0) (ts : List ℕ) (t : ℕ) → AllByRecursion P ts → Contains ts t → P t
every-there P [] t all there = absurd (omega (arith, there.1))
every-there P (u ∷ us) t all there = elim (Contains-cases u us t there) [ inl here ↦ subst P here all.0 | inr later ↦ every-there P us t all.1 later ]

-- ---- where keys of some places stand
turn_local : (t : ℕ) → IsTurn t → IsLocal (t / 2 % 2 ^ 23)
turn_local t own =
    (own.0, own.2, ap (λ n. n % 2 ^ 23) own.3 ∙ local_digit (group_of own.0) (kind_place own.1) (local_of own.0) (kind_small own.1) (local_small own.0 own.2))

place_local : (p : ℕ) → IsPlace p → IsLocal (p % 2 ^ 23)
place_local p own = (own.0, own.2, ap (λ n. n % 2 ^ 23) own.3 ∙ place_digit (kind_place own.1) (local_of own.0) (kind_small own.1) (local_small own.0 own.2))

turn_locals : (ts : List ℕ) → AreTurns ts → AllByRecursion IsLocal (turned_locals ts)
turn_locals [] all = tt
turn_locals (t ∷ ts) all = (turn_local t all.0, turn_locals ts all.1)

place_locals : (cs : List Count) → AllByRecursion (λ c. IsPlace c.place) cs → AllByRecursion IsLocal (locals cs)
place_locals [] all = tt
place_locals (c ∷ cs) all = (place_local c.place all.0, place_locals cs all.1)

both_locals : (xs ys : List ℕ) → AllByRecursion IsLocal xs → AllByRecursion IsLocal ys → AllByRecursion IsLocal (xs ++ ys)
both_locals [] ys one two = two
both_locals (x ∷ xs) ys one two = (one.0, both_locals xs ys one.1 two)

of_others : (asked given : List ℕ) → Has asked given → AllByRecursion IsLocal given → AllByRecursion IsLocal asked
of_others [] given has all = tt
of_others (n ∷ ns) given has all = (every-there IsLocal given n all (has n (Contains-here n ns)), of_others ns given (λ m there. has m (Contains-later n ns m there)) all)

number_there : (n : ℕ) (ns : List ℕ) → has_number n ns ≡ true → Contains ns n
number_there n [] t = absurd (let wrong : ⊥ = cc in wrong)
number_there n (m ∷ ms) t =
    elim (or_cases (m == n) (has_number n ms) t) [
      | inl here ↦ subst (Contains (m ∷ ms)) (eqb-true m n here) (Contains-here m ms)
      | inr later ↦ Contains-later m ms n (number_there n ms later)
    ]

there_number : (n : ℕ) (ns : List ℕ) → Contains ns n → has_number n ns ≡ true
there_number n [] there = absurd (omega (arith, there.1))
there_number n (m ∷ ms) there =
    elim (Contains-cases m ms n there) [
      | inl here ↦ or_left (m == n) (has_number n ms) (eq-eqb m n here)
      | inr later ↦ or_right (m == n) (has_number n ms) (there_number n ms later)
    ]

absent : (cs : List Count) (q : MapKey) (k : Kind) → fits q ≡ true → (Contains (locals cs) (local_of q) → ⊥) → times_at cs (place_of q k) ≡ 0
absent [] q k fit none = refl
absent (c ∷ cs) q k fit none =
    ap (λ b. cond b c.times (times_at cs (place_of q k))) (ne_eqb c.place (place_of q k) (λ same.
    let is : c.place % 2 ^ 23 ≡ local_of q = ap (λ n. n % 2 ^ 23) same ∙ place_digit (kind_place k) (local_of q) (kind_small k) (local_small q fit) in
    none (subst (λ n. Contains (locals (c ∷ cs)) n) is (Contains-here (c.place % 2 ^ 23) (locals cs)))))
    ∙ absent cs q k fit (λ there. none (Contains-later (c.place % 2 ^ 23) (locals cs) (local_of q) there))

-- a key has a count, or is given nothing
listed_or_none : (cs : List Count) (q : MapKey) → fits q ≡ true → Contains (locals cs) (local_of q) ⊎ ((k : Kind) → times_at cs (place_of q k) ≡ 0)
listed_or_none cs q fit =
    elim (cases_Bool (has_number (local_of q) (locals cs))) [
      | inl t ↦ inl (number_there (local_of q) (locals cs) t)
      | inr f ↦ inr (λ k. absent cs q k fit (λ there. both_ways (has_number (local_of q) (locals cs)) f (there_number (local_of q) (locals cs) there)))
    ]

none_kind : (u : Bool) → kind_by u false false ≡ None
none_kind true = refl
none_kind false = refl

held_is : (counts : List Count) (q : MapKey) (k : Kind) → fits q ≡ true → held counts q k ≡ times_at counts (place_of q k)
held_is counts q k fit = ap (λ b. cond b (times_at counts (place_of q k)) 0) fit

pub place_small : (q : MapKey) (k : Kind) → fits q ≡ true → place_of q k < 2 ^ 24
place_small q k fit = small (kind_place k) (local_of q) (kind_small k) (local_small q fit)
  where
    small : (k l : ℕ) → k ≤ 1 → l < 2 ^ 23 → k * 2 ^ 23 + l < 2 ^ 24
    small k l few low = omega (arith, few, low)

-- ---- those that are asked
module _ (g : ℕ) (small : g < 2 ^ 33) (old new : List Count) (are_old : AreCounts old) (turns : List ℕ) (all : AreTurns turns) (moved : IsTurnedBy g turns old new)
    (before after : Times) (was : IsHeld g old before) (is : IsHeld g new after) where
  same_held : (q : MapKey) (k : Kind) → fits q ≡ true → group_of q ≡ g → (ups turns (code_of q k) ≡ 0) × (downs turns (code_of q k) ≡ 0) → held old q k ≡ held new q k
  same_held q k fit own none =
      let code : code_of q k ≡ g * 2 ^ 24 + place_of q k = ap (λ n. n * 2 ^ 24 + place_of q k) own in
      let come : ups turns (g * 2 ^ 24 + place_of q k) ≡ 0 = ap (ups turns) (sym code) ∙ none.0 in
      let go : downs turns (g * 2 ^ 24 + place_of q k) ≡ 0 = ap (downs turns) (sym code) ∙ none.1 in
      omega (arith, held_is old q k fit, held_is new q k fit, moved (place_of q k) (place_small q k fit), come, go)

  module _ (asked : List ℕ) (up : IsStrictlySortedBy nat_cmp asked) (has : Has (turned_locals turns) asked) (under : AreAskedUnder old turns asked)
      (no_more : Has asked (turned_locals turns ++ locals old)) where
    own_same : (q : MapKey) (k : Kind) → fits q ≡ true → group_of q ≡ g → (Contains asked (local_of q) → ⊥) → before q k ≡ after q k
    own_same q k fit own none =
        was q k own ∙ same_held q k fit own (none_turns turns (code_of q k) (λ t there half.
        let digit : t / 2 % 2 ^ 23 ≡ local_of q = ap (λ n. n % 2 ^ 23) half ∙ local_digit (group_of q) (kind_place k) (local_of q) (kind_small k) (local_small q fit) in
        none (has (local_of q) (subst (Contains (turned_locals turns)) digit (mapped (λ u. u / 2 % 2 ^ 23) turns t there))))) ∙ sym (is q k own)

    -- a key with a count that isn't asked lies under no deny that turns
    over_same : (q : MapKey) → group_of q ≡ g → (Contains asked (local_of q) → ⊥) → Contains (locals old) (local_of q)
        → (w : MapKey) → w.dir ≡ q.dir → w.id ≡ q.id → IsNear w q → is_given before Deny w ≡ is_given after Deny w
    over_same q own none given w dirs ids near =
        let of : group_of w ≡ g = (λ i. dir_place (dirs i) * 2 ^ 32 + ids i) ∙ own in
        ap (nat_lt 0) (was w Deny of ∙ same_held w Deny near.fit of (none_turns turns (code_of w Deny) (λ t there half.
        let low = local_small w near.fit in
        let digit : t / 2 % 2 ^ 24 ≡ local_of w = ap (λ n. n % 2 ^ 24) half ∙ deny_digit (group_of w) (local_of w) low in
        none (under t (local_of q) there (record {
          deny = subst (λ n. n < 2 ^ 23) (sym digit) low;
          from = subst (λ n. n ≤ local_of q) (sym digit) near.from;
          to = subst (λ n. local_of q < under_end n) (sym digit) near.to;
        }) given))) ∙ sym (is w Deny of))

    unasked : (q : MapKey) → fits q ≡ true → group_of q ≡ g → (Contains asked (local_of q) → ⊥) → kind_of before q ≡ kind_of after q
    unasked q fit own none =
        let denied = own_same q Deny fit own none in
        let allowed = own_same q Allow fit own none in
        elim (listed_or_none old q fit) [
          | inl given ↦
              (let same : is_under before q ≡ is_under after q = under_near before after q fit (over_same q own none given) in
              λ i. kind_by (same i) (nat_lt 0 (denied i)) (nat_lt 0 (allowed i)))
          | inr nothing ↦
              (let zero_was : (k : Kind) → before q k ≡ 0 = λ k. was q k own ∙ held_is old q k fit ∙ nothing k in
              (λ i. kind_by (is_under before q) (nat_lt 0 (zero_was Deny i)) (nat_lt 0 (zero_was Allow i))) ∙ none_kind (is_under before q)
              ∙ sym ((λ i. kind_by (is_under after q) (nat_lt 0 ((sym denied ∙ zero_was Deny) i)) (nat_lt 0 ((sym allowed ∙ zero_was Allow) i))) ∙ none_kind (is_under after q)))
        ]

    pub asked_go_on : (list more : List Change) (size grown : ℕ) → more ≡ list ++ changes_in g (held old) (held new) asked
        → grown + clear_count (changes_in g (held old) (held new) asked) ≡ size + new_count (held old) (changes_in g (held old) (held new) asked)
        → GoesOn before after (g * 2 ^ 23) ((g + 1) * 2 ^ 23) list more size grown
    asked_go_on list more size grown made sized =
        group_goes_on g small (held old) (held new) before after was is asked up
        (of_others asked (turned_locals turns ++ locals old) no_more (both_locals (turned_locals turns) (locals old) (turn_locals turns all) (place_locals old are_old.places)))
        unasked list more size grown made sized

locals_small : (ns : List ℕ) → AllByRecursion IsLocal ns → AllByRecursion (λ n. n < 2 ^ 23) ns
locals_small [] all = tt
locals_small (n ∷ ns) all = (let own = all.0 in let low = local_small own.0 own.1 in omega (arith, own.2, low), locals_small ns all.1)

pub asked_small : (old : List Count) (turns asked : List ℕ) → AreCounts old → AreTurns turns → Has asked (turned_locals turns ++ locals old) → AllByRecursion (λ n. n < 2 ^ 23) asked
asked_small old turns asked are_old all no_more =
    locals_small asked (of_others asked (turned_locals turns ++ locals old) no_more (both_locals (turned_locals turns) (locals old) (turn_locals turns all) (place_locals old are_old.places)))

sorted_one : (n : ℕ) → IsStrictlySortedBy nat_cmp (n ∷ [])
unfolding IsStrictlySortedBy
sorted_one n = (tt, tt)

-- one turn alone
pub one_small : (turns asked : List ℕ) (t : ℕ) → turns ≡ t ∷ [] → AreTurns turns → asked ≡ t / 2 % 2 ^ 23 ∷ [] → AllByRecursion (λ n. n < 2 ^ 23) asked
one_small turns asked t is all same = subst (AllByRecursion (λ n. n < 2 ^ 23)) (sym same) (locals_small (t / 2 % 2 ^ 23 ∷ []) (turn_locals (t ∷ []) (subst AreTurns is all)))

pub one_goes : (g : ℕ) (small : g < 2 ^ 33) (old new : List Count) (are_old : AreCounts old) (turns : List ℕ) (all : AreTurns turns) (moved : IsTurnedBy g turns old new)
    (before after : Times) (was : IsHeld g old before) (is : IsHeld g new after) (asked : List ℕ) (t : ℕ) → turns ≡ t ∷ [] → asked ≡ t / 2 % 2 ^ 23 ∷ []
    → 2 ^ 23 ≤ t / 2 % 2 ^ 24
    → (list more : List Change) (size grown : ℕ) → more ≡ list ++ changes_in g (held old) (held new) asked
    → grown + clear_count (changes_in g (held old) (held new) asked) ≡ size + new_count (held old) (changes_in g (held old) (held new) asked)
    → GoesOn before after (g * 2 ^ 23) ((g + 1) * 2 ^ 23) list more size grown
one_goes g small old new are_old turns all moved before after was is asked t one same allow list more size grown made sized =
    let all_same : asked ≡ turned_locals turns = same ∙ sym (ap turned_locals one) in
    asked_go_on g small old new are_old turns all moved before after was is asked (subst (IsStrictlySortedBy nat_cmp) (sym same) (sorted_one (t / 2 % 2 ^ 23)))
    (λ n there. subst (λ l. Contains l n) (sym all_same) there)
    (λ turn n there under given. absurd (no_deny turn there under.deny))
    (λ n there. Contains-append_left (turned_locals turns) (locals old) n (subst (λ l. Contains l n) all_same there)) list more size grown made sized
  where
    no_deny : (turn : ℕ) → Contains turns turn → turn / 2 % 2 ^ 24 < 2 ^ 23 → ⊥
    no_deny turn there low =
        elim (Contains-cases t [] turn (subst (λ l. Contains l turn) one there)) [
          | inl here ↦ (let high : 2 ^ 23 ≤ turn / 2 % 2 ^ 24 = subst (λ u. 2 ^ 23 ≤ u / 2 % 2 ^ 24) here allow in omega (arith, high, low))
          | inr later ↦ omega (arith, later.1)
        ]
