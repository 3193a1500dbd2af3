-- How many ports and ranges there are: what bounds the steps of an audit.
use Rattle.std.proofs.Common.{◌≡◌, ℕ, ◌+◌, ◌-◌, ◌*◌, ◌<◌, ◌≤◌, ◌==◌, ◌||◌, Bool, true, false, cond, List, [], ◌∷◌, ◌++◌, count_by, filter, length, map, refl, sym, ap, subst, ◌∙◌, inl, inr, ◌⊎◌, ◌↔◌, length-append, arith}
use Rattle.std.specs.BTreeSet.{insert_key}
use Rattle.std.specs.Cmp.{nat_cmp_is}
use Rattle.std.specs.List.{Contains, flat_map, sum_by}
use Rattle.std.specs.List.Sorted.{IsStrictlySortedBy}
use Rattle.std.specs.Ordering.{match_ordering, nat_cmp}
use Rattle.std.specs.declared.cmp.Ordering.{Ordering}
use Rattle.std.specs.declared.cmp.Ordering.TheVariants.{Less, Equal, Greater}
use Rattle.std.proofs.lemmas.Bool.{cases_Bool, cases_order, eqb-true, ne_eqb}
use Rattle.std.proofs.lemmas.Cmp.{nat_cmp_total}
use Rattle.std.proofs.lemmas.List.{map-append}
use Rattle.std.proofs.lemmas.List.Concat.{length-flat_map}
use Rattle.std.proofs.lemmas.List.Sums.{length-filter, sum_by-le}
use Rattle.pol_data.proofs.Ascending.{same_members}
use Rattle.pol_data.proofs.Counts.{count_by-cons}
use Rattle.pol_data.proofs.Members.{Contains-from_In, In, In-from_Contains, every-from_in}
use Rattle.pol_ports.specs.declared.Direction.{Direction}
use Rattle.pol_ports.specs.declared.Proto.{Proto}
use Rattle.pol_mapkey.specs.declared.Word.{Word}
use Rattle.pol_mapkey.specs.Entries.{Entry}
use Rattle.pol_audit.specs.declared.group.Group.{Group}
use Rattle.pol_audit.specs.Cuts.{all_cuts, cuts_at}
use Rattle.pol_audit.specs.Extent.{entries_for, extent_in, numbers_in, part_of, share_of}
use Rattle.pol_audit.specs.Ranges.{piece, ranges_from, same_words}
use Rattle.pol_audit.proofs.Steady.{above_head}
use Rattle.pol_audit.proofs.Walk.{ranges_end, ranges_next, ranges_same}

-- ---- ranges and ports
few_chosen : {X : Type 0} (b : Bool) (x : X) → length (cond b [] (x ∷ [])) ≤ 1
few_chosen true x = omega arith
few_chosen false x = omega arith

module _ (group : Group) (said : ℕ → Word × Word) where
  piece_few : (first last : ℕ) → length (piece group first last (said first)) ≤ 1
  piece_few first last = few_chosen _ _

  -- one range more than there are ports at which something may change
  pub ranges_few : (first : ℕ) (ports : List ℕ) → length (ranges_from group said first ports) ≤ length ports + 1
  ranges_few first [] = subst (λ rs. length rs ≤ 1) (sym (ranges_end group said first)) (piece_few first 65535)
  ranges_few first (port ∷ ports) = elim (cases_Bool (same_words (said first) (said port))) [
    | inl same ↦ subst (λ rs. length rs ≤ length (port ∷ ports) + 1) (sym (ranges_same group said first port ports same)) (let few = ranges_few first ports in omega arith)
    | inr other ↦
        subst (λ rs. length rs ≤ length (port ∷ ports) + 1) (sym (ranges_next group said first port ports other))
        (let few = ranges_few port ports in let one = piece_few first (port - 1) in
        let joined = length-append (piece group first (port - 1) (said first)) (ranges_from group said port ports) in omega arith)
  ]

ends_few : (b c : Bool) (x y : ℕ) → length (cond b (x ∷ cond c (y ∷ []) []) []) ≤ 2
ends_few true true x y = omega arith
ends_few true false x y = omega arith
ends_few false c x y = omega arith

-- each entry has two ports at most
pub cuts_few : (proto : Proto) (entries : List Entry) → length (flat_map (cuts_at proto) entries) ≤ 2 * length entries
cuts_few proto entries =
    let most = sum_by-le (λ e. length (cuts_at proto e)) 2 entries (λ k d below. ends_few _ _ _ _) in
    omega (arith, length-flat_map (cuts_at proto) entries, most)

pub all_cuts_few : (proto : Proto) (left right left_every right_every : List Entry)
    → length (all_cuts proto left right left_every right_every) ≤ 2 * (length left + length right + length left_every + length right_every)
all_cuts_few proto left right left_every right_every =
    let a = flat_map (cuts_at proto) left in let b = flat_map (cuts_at proto) right in
    let c = flat_map (cuts_at proto) left_every in let d = flat_map (cuts_at proto) right_every in
    omega (
      arith,
      length-append a b,
      length-append (a ++ b) c,
      length-append ((a ++ b) ++ c) d,
      cuts_few proto left,
      cuts_few proto right,
      cuts_few proto left_every,
      cuts_few proto right_every,
    )

-- ---- the entries of a number and of 0
module _ (p q : Entry → Bool) (apart : (e : Entry) → p e ≡ true → q e ≡ false) where
  one_of : (e : Entry) (b : Bool) → p e ≡ b → cond (p e || q e) 1 0 ≡ cond (p e) 1 0 + cond (q e) 1 0
  one_of e true is = rw (is, apart e is) refl
  one_of e false is = rw is (let same : cond (q e) 1 0 ≡ 0 + cond (q e) 1 0 = omega arith in same)

  count_either : (entries : List Entry) → count_by (λ e. p e || q e) entries ≡ count_by p entries + count_by q entries
  count_either [] = refl
  count_either (e ∷ entries) =
      let all = count_by-cons (λ f. p f || q f) e entries in let ps = count_by-cons p e entries in let qs = count_by-cons q e entries in
      let one = one_of e (p e) refl in let rest = count_either entries in omega arith

abbrev has_id : ℕ → Entry → Bool
has_id id e = e.0.id == id

either_same : (b : Bool) → (b || b) ≡ b
either_same true = refl
either_same false = refl

-- those of 0 alone
pub entries_for_0 : (id : ℕ) (entries every : List Entry) → id ≡ 0 → every ≡ filter (has_id 0) entries → length every ≡ entries_for id entries
entries_for_0 id entries every zero' is =
    ap length is ∙ length-filter (has_id 0) entries ∙ ap (λ (p : Entry → Bool). count_by p entries) (λ i e. sym (either_same (e.0.id == 0)) i)
    ∙ ap (λ n. entries_for n entries) (sym zero')

-- those of a number that isn't 0, and those of 0
pub entries_for_id : (id : ℕ) (entries own every : List Entry) → (id ≡ 0 → ⊥) → own ≡ filter (has_id id) entries → every ≡ filter (has_id 0) entries → length own + length every ≡ entries_for id entries
entries_for_id id entries own every other own_is every_is =
    let one = ap length own_is ∙ length-filter (has_id id) entries in
    let two = ap length every_is ∙ length-filter (has_id 0) entries in
    let all = count_either (has_id id) (has_id 0) (λ e is. ne_eqb e.0.id 0 (λ zero'. other (sym (eqb-true e.0.id id is) ∙ zero'))) entries in
    omega arith

-- ---- the numbers of some entries
module _ (k : ℕ) where
  abbrev placed : ℕ → List ℕ → Ordering → List ℕ
  placed x xs o = match_ordering o (k ∷ x ∷ xs) (x ∷ xs) (x ∷ insert_key nat_cmp xs k)

  place_is : (x : ℕ) (xs : List ℕ) (o : Ordering) → o ≡ nat_cmp k x → insert_key nat_cmp (x ∷ xs) k ≡ placed x xs o
  place_is x xs o is = ap (placed x xs) (sym is)

  into_placed : (xs : List ℕ) (n : ℕ) → (k ≡ n) ⊎ In n xs → In n (insert_key nat_cmp xs k)
  into_placed [] n either = either
  into_placed (x ∷ xs) n either = elim (cases_order k x) [
    | inl same ↦ subst (In n) (sym (place_is x xs Equal (nat_cmp_is k x Equal same))) (elim either [ inl is ↦ inl (sym same ∙ is) | inr there ↦ there ])
    | inr order ↦ elim order [
      | inl below ↦ subst (In n) (sym (place_is x xs Less (nat_cmp_is k x Less below))) either
      | inr above ↦ subst (In n) (sym (place_is x xs Greater (nat_cmp_is k x Greater above))) (elim either [
        | inl is ↦ inr (into_placed xs n (inl is))
        | inr there ↦ elim there [ inl here ↦ inl here | inr later ↦ inr (into_placed xs n (inr later)) ]
      ])
    ]
  ]

  from_placed : (xs : List ℕ) (n : ℕ) → In n (insert_key nat_cmp xs k) → (k ≡ n) ⊎ In n xs
  from_placed [] n there = there
  from_placed (x ∷ xs) n there = elim (cases_order k x) [
    | inl same ↦ inr (subst (In n) (place_is x xs Equal (nat_cmp_is k x Equal same)) there)
    | inr order ↦ elim order [
      | inl below ↦ subst (In n) (place_is x xs Less (nat_cmp_is k x Less below)) there
      | inr above ↦ elim (subst (In n) (place_is x xs Greater (nat_cmp_is k x Greater above)) there) [
        | inl here ↦ inr (inl here)
        | inr later ↦ elim (from_placed xs n later) [ inl is ↦ inl is | inr old ↦ inr (inr old) ]
      ]
    ]
  ]

  less : (x y : ℕ) → x < y → nat_cmp x y ≡ Less
  less x y below = sym (nat_cmp_is x y Less below)

  placed_ascends : (xs : List ℕ) → IsStrictlySortedBy nat_cmp xs → IsStrictlySortedBy nat_cmp (insert_key nat_cmp xs k)
  unfolding IsStrictlySortedBy
  placed_ascends [] up = (tt, tt)
  placed_ascends (x ∷ xs) up = elim (cases_order k x) [
    | inl same ↦ subst (IsStrictlySortedBy nat_cmp) (sym (place_is x xs Equal (nat_cmp_is k x Equal same))) up
    | inr order ↦ elim order [
      | inl below ↦ subst (IsStrictlySortedBy nat_cmp) (sym (place_is x xs Less (nat_cmp_is k x Less below)))
          ((less k x below, every-from_in (λ y. nat_cmp k y ≡ Less) xs (λ y there. less k y (let above = above_head x xs up y (Contains-from_In xs y there) in omega arith))), up)
      | inr above ↦ subst (IsStrictlySortedBy nat_cmp) (sym (place_is x xs Greater (nat_cmp_is k x Greater above))) (
        every-from_in (λ y. nat_cmp x y ≡ Less) (insert_key nat_cmp xs k) (λ y there. less x y (elim (from_placed xs y there) [
          | inl is ↦ omega (arith, is)
          | inr old ↦ above_head x xs up y (Contains-from_In xs y old)
        ])),
        placed_ascends xs up.1,
      )
    ]
  ]

pub numbers_ascend : (entries : List Entry) → IsStrictlySortedBy nat_cmp (numbers_in entries)
unfolding numbers_in IsStrictlySortedBy
numbers_ascend [] = (tt, tt)
numbers_ascend (e ∷ entries) = placed_ascends e.0.id (numbers_in entries) (numbers_ascend entries)

abbrev pub ids : List Entry → List ℕ
ids entries = map (λ (e : Entry). e.0.id) entries

pub numbers_to : (entries : List Entry) (n : ℕ) → In n (numbers_in entries) → In n (0 ∷ ids entries)
unfolding numbers_in
numbers_to [] n there = there
numbers_to (e ∷ entries) n there = elim (from_placed e.0.id (numbers_in entries) n there) [
  | inl is ↦ inr (inl is)
  | inr later ↦ elim (numbers_to entries n later) [ inl zero' ↦ inl zero' | inr old ↦ inr (inr old) ]
]

pub numbers_from : (entries : List Entry) (n : ℕ) → In n (0 ∷ ids entries) → In n (numbers_in entries)
unfolding numbers_in
numbers_from [] n there = there
numbers_from (e ∷ entries) n (inl zero') = into_placed e.0.id (numbers_in entries) n (inr (numbers_from entries n (inl zero')))
numbers_from (e ∷ entries) n (inr (inl is)) = into_placed e.0.id (numbers_in entries) n (inl is)
numbers_from (e ∷ entries) n (inr (inr later)) = into_placed e.0.id (numbers_in entries) n (inr (numbers_from entries n (inr later)))

-- an ascending list of 0 and these numbers
pub same_numbers : (left right : List Entry) (numbers : List ℕ) → IsStrictlySortedBy nat_cmp numbers
    → ((n : ℕ) → Contains numbers n ↔ Contains (((0 ∷ []) ++ ids left) ++ ids right) n) → numbers ≡ numbers_in (left ++ right)
same_numbers left right numbers up members =
    same_members nat_cmp_total numbers (numbers_in (left ++ right)) up (numbers_ascend (left ++ right))
    (λ n there. numbers_from (left ++ right) n (subst (In n) joins (In-from_Contains all n ((members n).0 (Contains-from_In numbers n there)))))
    (λ n there. In-from_Contains numbers n ((members n).1 (Contains-from_In all n (subst (In n) (sym joins) (numbers_to (left ++ right) n there)))))
  where
    all : List ℕ
    all = ((0 ∷ []) ++ ids left) ++ ids right

    joins : all ≡ 0 ∷ ids (left ++ right)
    joins = ap (λ ns. 0 ∷ ns) (sym (map-append (λ (e : Entry). e.0.id) left right))

-- at the names that the function has for the parts and numbers
pub extent_is : (dir : Direction) (left right left_part right_part left_again right_again : List Entry) (numbers again : List ℕ)
    → left_part ≡ part_of dir left → right_part ≡ part_of dir right → left_again ≡ part_of dir left → right_again ≡ part_of dir right → again ≡ numbers
    → IsStrictlySortedBy nat_cmp numbers → ((n : ℕ) → Contains numbers n ↔ Contains (((0 ∷ []) ++ ids left_part) ++ ids right_part) n)
    → sum_by (share_of left_again right_again) again ≡ extent_in dir left right
unfolding extent_in
extent_is dir left right left_part right_part left_again right_again numbers again left_is right_is left_as right_as same up members =
    ap (sum_by (share_of left_again right_again)) (same ∙ same_numbers left_part right_part numbers up members ∙ (λ i. numbers_in (left_is i ++ right_is i)))
    ∙ (λ i. sum_by (share_of (left_as i) (right_as i)) (numbers_in (part_of dir left ++ part_of dir right)))
