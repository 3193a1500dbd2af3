-- The selectors that aren't tried don't change, and those that are come in the order of their numbers.
use Rattle.std.proofs.Common.{zero, suc, ◌≡◌, ℕ, ◌+◌, ◌*◌, ◌==◌, ◌<◌, ◌≤◌, ◌&&◌, ◌||◌, not, Bool, true, false, cond, List, [], ◌∷◌, ◌++◌, length, take, slice_get, Some, None, refl, sym, ap, subst, ◌∙◌, arith}
use Rattle.std.specs.List.{AllByRecursion, cons_option, list_any}
use Rattle.std.specs.List.Sorted.{IsStrictlySortedBy}
use Rattle.std.specs.Ordering.{nat_cmp}
use Rattle.std.specs.declared.cmp.Ordering.TheVariants.{Less}
use Rattle.std.proofs.lemmas.Bool.{cond-true, cond-false, eq-eqb, eqb-true, false_from_ne_true, ne_eqb, or_right}
use Rattle.std.proofs.lemmas.List.Elements.{filter_map-append}
use Rattle.std.proofs.lemmas.Option.{same_Some, slice_get-get_or}
use Rattle.std.specs.Prelude.{slice_index}
use Rattle.std.proofs.Math.Nat.{mul-le-mul_left}
use Rattle.pol_data.proofs.Every.{every-weaker}
use Rattle.pol_data.proofs.Filters.{filter-none}
use Rattle.pol_headings.specs.declared.heading.Heading.{Heading}
use Rattle.pol_headings.specs.Heading.{heading_of}
use Rattle.pol_headings.specs.Tried.{AreKept, is_among}
use Rattle.pol_model.specs.Ascending.{Ascends}
use Rattle.pol_model.specs.declared.row.IdentityRow.{IdentityRow}
use Rattle.pol_model.specs.Selects.{set_at}
use Rattle.pol_set_changes.specs.Ids.{has}
use Rattle.pol_selcache.specs.Tried.{HasAllAt}
use Rattle.pol_ident.specs.Look.{selects_held}
use Rattle.pol_selcache.specs.Held.{steps_of}
use Rattle.pol_selcache.specs.Live.{Live, AreLive, label_selectors, rows_without, selector_of}
use Rattle.pol_selcache.specs.Moving.{Moving}
use Rattle.pol_selcache.specs.Plan.{change_to, changes_for}
use Rattle.pol_selcache.specs.Tried.{of_numbers}
use Rattle.pol_selectors.proofs.LiveLists.{AllAbove, numbers}
use Rattle.pol_selcache.proofs.Moves.{gained_is, lost_is}
use Rattle.pol_sets.proofs.IdLemmas.{less_is}
use Rattle.pol_selcache.proofs.Numbers.{has-append}
use Rattle.pol_selcache.proofs.Planning.{labels-cons, stands}
use Rattle.pol_selcache.proofs.RowSets.{has-held, has-set_without}

-- ---- headings that stay among more
pub all_kept : (rows : List IdentityRow) (old new : List Heading) → AreKept old new → (ns : List ℕ) → AllByRecursion (HasAllAt rows old) ns → AllByRecursion (HasAllAt rows new) ns
all_kept rows old new kept ns all =
    every-weaker (HasAllAt rows old) (HasAllAt rows new) (λ n here p selected. kept (heading_of p) (here p selected)) ns all

pub every_more : {X : Type 0} (P : X → Type 0) (xs : List X) (i : ℕ) (x : X) → slice_get xs i ≡ Some x → AllByRecursion P (take i xs) → P x → AllByRecursion P (take (i + 1) xs)
every_more {X = X} P xs i x at all here = (let on : suc i ≡ i + 1 = omega arith in subst (λ k. AllByRecursion P (take k xs)) on (by xs i at all))
  where
    by : (ys : List X) (j : ℕ) → slice_get ys j ≡ Some x → AllByRecursion P (take j ys) → AllByRecursion P (take (suc j) ys)
    by [] j there before = tt
    by (y ∷ ys) zero there before = (subst P (let same : x ≡ y = cc in same) here, tt)
    by (y ∷ ys) (suc j) there before = (before.0, by ys j there before.1)

-- ---- a selector whose peer has none of the headings doesn't change
module _ (rows : List IdentityRow) (come gone : List ℕ) (headings : List Heading) (all_come : AllByRecursion (HasAllAt rows headings) come) (all_gone : AllByRecursion (HasAllAt rows headings) gone)
    (s : Live) (moving : Moving rows come gone s.peer s.set) (untried : is_among headings (heading_of s.peer) ≡ false) where
  not_selected : (n : ℕ) → HasAllAt rows headings n → selects_held rows s.peer n ≡ false
  not_selected n all = false_from_ne_true (selects_held rows s.peer n) (λ selected. let no : true ≡ false = sym (all s.peer selected) ∙ untried in cc)

  none_come : (ns : List ℕ) → AllByRecursion (HasAllAt rows headings) ns → list_any (selects_held rows s.peer) ns ≡ false
  none_come [] all = refl
  none_come (n ∷ ns) all = ap (λ b. b || list_any (selects_held rows s.peer) ns) (not_selected n all.0) ∙ none_come ns all.1

  has_not : (n : ℕ) → HasAllAt rows headings n → has n s.set ≡ false
  has_not n all =
      ap (has n) moving.exact ∙ has-set_without s.peer n come rows
      ∙ ap (λ b. not (has n come) && b) (sym (has-held s.peer n rows moving.rows_ascend) ∙ not_selected n all)
      ∙ nothing (not (has n come))
    where
      nothing : (b : Bool) → (b && false) ≡ false
      nothing true = refl
      nothing false = refl

  none_gone : (ns : List ℕ) → AllByRecursion (HasAllAt rows headings) ns → list_any (λ n. has n s.set) ns ≡ false
  none_gone [] all = refl
  none_gone (n ∷ ns) all = ap (λ b. b || list_any (λ m. has m s.set) ns) (has_not n all.0) ∙ none_gone ns all.1

  pub stays : change_to (set_at (rows_without gone rows) s.peer) s ≡ None
  stays =
      let gained = filter-none (selects_held rows s.peer) come (none_come come all_come) in
      let lost = filter-none (λ n. has n s.set) gone (none_gone gone all_gone) in
      sym (stands (set_at (rows_without gone rows) s.peer) s [] []
      (sym gained ∙ gained_is rows s.peer come gone s.set moving)
      (sym lost ∙ lost_is rows s.peer come gone s.set moving)
      refl)

-- so those that are tried make all changes
module _ (rows : List IdentityRow) (come gone ns : List ℕ) (headings : List Heading) (all_come : AllByRecursion (HasAllAt rows headings) come) (all_gone : AllByRecursion (HasAllAt rows headings) gone) where
  pub tried_change : (live : List Live) → AllByRecursion (λ s. Moving rows come gone s.peer s.set) live
      → AllByRecursion (λ s. is_among headings (heading_of s.peer) ≡ true → has s.number ns ≡ true) live
      → changes_for (rows_without gone rows) (of_numbers ns live) ≡ changes_for (rows_without gone rows) live
  tried_change [] moving tried = refl
  tried_change (s ∷ live) moving tried = by (tried_change live moving.1 tried.1) (has s.number ns) refl
    where
      by : changes_for (rows_without gone rows) (of_numbers ns live) ≡ changes_for (rows_without gone rows) live
          → (b : Bool) → has s.number ns ≡ b → changes_for (rows_without gone rows) (cond b (s ∷ of_numbers ns live) (of_numbers ns live)) ≡ changes_for (rows_without gone rows) (s ∷ live)
      by rest true is = ap (cons_option (change_to (set_at (rows_without gone rows) s.peer) s)) rest
      by rest false is =
          let untried : is_among headings (heading_of s.peer) ≡ false = false_from_ne_true (is_among headings (heading_of s.peer)) (λ among. let no : true ≡ false = sym (tried.0 among) ∙ is in cc) in
          rest ∙ ap (λ o. cons_option o (changes_for (rows_without gone rows) live)) (sym (stays rows come gone headings all_come all_gone s moving.0 untried))

-- ---- one number after another
pub ascends_from_strict : (xs : List ℕ) → IsStrictlySortedBy nat_cmp xs → Ascends xs
unfolding IsStrictlySortedBy
ascends_from_strict [] sorted = tt
ascends_from_strict (x ∷ xs) sorted = (every-weaker (λ y. nat_cmp x y ≡ Less) (λ y. x < y) (λ y less. less_is x y less) xs sorted.0, ascends_from_strict xs sorted.1)

pub take_next : (ns : List ℕ) (i n : ℕ) → slice_get ns i ≡ Some n → take (i + 1) ns ≡ take i ns ++ n ∷ []
take_next ns i n at = (let on : i + 1 ≡ suc i = omega arith in ap (λ k. take k ns) on) ∙ by ns i at
  where
    by : (ks : List ℕ) (j : ℕ) → slice_get ks j ≡ Some n → take (suc j) ks ≡ take j ks ++ n ∷ []
    by [] j there = absurd (let wrong : ⊥ = cc in wrong)
    by (m ∷ ks) zero there = ap (λ k. k ∷ []) (let same : m ≡ n = cc in same)
    by (m ∷ ks) (suc j) there = ap (λ rest. m ∷ rest) (by ks j there)

below_taken : (ns : List ℕ) (i n : ℕ) → Ascends ns → slice_get ns i ≡ Some n → AllByRecursion (λ m. m < n) (take i ns)
below_taken [] i n ascend at = absurd (let wrong : ⊥ = cc in wrong)
below_taken (m ∷ ns) zero n ascend at = tt
below_taken (m ∷ ns) (suc i) n ascend at = (above ns i ascend.0 at, below_taken ns i n ascend.1 at)
  where
    above : (ks : List ℕ) (j : ℕ) → AllByRecursion (λ k. m < k) ks → slice_get ks j ≡ Some n → m < n
    above [] j all there = absurd (let wrong : ⊥ = cc in wrong)
    above (k ∷ ks) zero all there = subst (λ l. m < l) (let same : k ≡ n = cc in same) all.0
    above (k ∷ ks) (suc j) all there = above ks j all.1 there

has_less : (m : ℕ) (done : List ℕ) → AllByRecursion (λ k. k < m) done → has m done ≡ false
has_less m [] below = refl
has_less m (k ∷ done) below =
    ap (λ b. b || has m done) (ne_eqb k m (λ same. let less = below.0 in omega arith)) ∙ has_less m done below.1

none_later : (n : ℕ) (done : List ℕ) (live : List Live) → AllByRecursion (λ k. k ≤ n) done → AllAbove n live → of_numbers done live ≡ []
none_later n done [] most above = refl
none_later n done (t ∷ live) most above =
    cond-false (has t.number done) (t ∷ of_numbers done live) (of_numbers done live) (has_less t.number done (every-weaker (λ k. k ≤ n) (λ k. k < t.number) (λ k least. let more = above.0 in omega arith) done most))
    ∙ none_later n done live most above.1

pub one_more : (done : List ℕ) (live : List Live) (i : ℕ) (s : Live) → Ascends (numbers live) → AllByRecursion (λ m. m < s.number) done → slice_get live i ≡ Some s
    → of_numbers (done ++ s.number ∷ []) live ≡ of_numbers done live ++ s ∷ []
one_more done [] i s ascend below at = absurd (let wrong : ⊥ = cc in wrong)
one_more done (t ∷ live) zero s ascend below at =
    let same : t ≡ s = cc in
    let above : AllAbove s.number live = subst (λ u. AllAbove u.number live) same ascend.0 in
    let here : has t.number (done ++ s.number ∷ []) ≡ true =
    ap (λ u. has u.number (done ++ s.number ∷ [])) same ∙ has-append s.number done (s.number ∷ []) ∙ or_right (has s.number done) ((s.number == s.number) || false) (ap (λ b. b || false) (eq-eqb s.number s.number refl)) in
    let before : has t.number done ≡ false = ap (λ u. has u.number done) same ∙ has_less s.number done below in
    let all : AllByRecursion (λ k. k ≤ s.number) (done ++ s.number ∷ []) = at_most done below in
    cond-true (has t.number (done ++ s.number ∷ [])) (t ∷ of_numbers (done ++ s.number ∷ []) live) _ here
    ∙ (λ k. same k ∷ none_later s.number (done ++ s.number ∷ []) live all above k)
    ∙ sym (ap (λ xs. xs ++ s ∷ []) (cond-false (has t.number done) (t ∷ of_numbers done live) (of_numbers done live) before ∙ none_later s.number done live (every-weaker (λ k. k < s.number) (λ k. k ≤ s.number) (λ k less. omega arith) done below) above))
  where
    at_most : (ks : List ℕ) → AllByRecursion (λ k. k < s.number) ks → AllByRecursion (λ k. k ≤ s.number) (ks ++ s.number ∷ [])
    at_most [] all = (omega arith, tt)
    at_most (k ∷ ks) all = ((let less = all.0 in omega arith), at_most ks all.1)
one_more done (t ∷ live) (suc i) s ascend below at =
    let less : t.number < s.number = above live i ascend.0 at in
    let same : has t.number (done ++ s.number ∷ []) ≡ has t.number done =
    has-append t.number done (s.number ∷ []) ∙ ap (λ b. has t.number done || (b || false)) (ne_eqb s.number t.number (λ e. omega arith)) ∙ nothing (has t.number done) in
    ap (λ b. cond b (t ∷ of_numbers (done ++ s.number ∷ []) live) (of_numbers (done ++ s.number ∷ []) live)) same
    ∙ ap (λ xs. cond (has t.number done) (t ∷ xs) xs) (one_more done live i s ascend.1 below at)
    ∙ out (has t.number done) (of_numbers done live)
  where
    above : (others : List Live) (j : ℕ) → AllAbove t.number others → slice_get others j ≡ Some s → t.number < s.number
    above [] j all there = absurd (let wrong : ⊥ = cc in wrong)
    above (u ∷ others) zero all there = subst (λ v. t.number < v.number) (let same : u ≡ s = cc in same) all.0
    above (u ∷ others) (suc j) all there = above others j all.1 there

    nothing : (b : Bool) → (b || (false || false)) ≡ b
    nothing true = refl
    nothing false = refl

    out : (b : Bool) (xs : List Live) → cond b (t ∷ xs ++ s ∷ []) (xs ++ s ∷ []) ≡ cond b (t ∷ xs) xs ++ s ∷ []
    out true xs = refl
    out false xs = refl

-- fewer selectors, fewer label selectors
pub labels_among : (ns : List ℕ) (live : List Live) → label_selectors (of_numbers ns live) ≤ label_selectors live
labels_among ns [] = omega arith
labels_among ns (t ∷ live) = by (labels_among ns live) (has t.number ns)
  where
    by : label_selectors (of_numbers ns live) ≤ label_selectors live → (b : Bool) → label_selectors (cond b (t ∷ of_numbers ns live) (of_numbers ns live)) ≤ label_selectors (t ∷ live)
    by rest true =
        let one = labels-cons t (of_numbers ns live) in
        let all = labels-cons t live in
        omega arith
    by rest false =
        let all = labels-cons t live in
        omega arith

pub none_yet : (live : List Live) → of_numbers [] live ≡ []
none_yet [] = refl
none_yet (s ∷ live) = none_yet live

pub cost_at_end : (taken : List ℕ) (live : List Live) (start now come : ℕ) → now ≤ start + label_selectors (of_numbers taken live) * come → now ≤ start + label_selectors live * come
cost_at_end taken live start now come before = let all = mul-le-mul_left come (labels_among taken live) in omega arith

-- the same for the numbers that are tried, up to a place
pub record Trying (ns : List ℕ) (live : List Live) (j i : ℕ) (s : Live) : Type 0 where
  pub tried_ascend : Ascends ns
  pub ascend : Ascends (numbers live)
  pub tried_at : slice_get ns j ≡ Some s.number
  pub at : slice_get live i ≡ Some s

stands_at : (n : ℕ) (live : List Live) (s : Live) → selector_of n live ≡ Some s → (i : ℕ) × (slice_get live i ≡ Some s) × (s.number ≡ n)
stands_at n [] s found = absurd (let wrong : ⊥ = cc in wrong)
stands_at n (t ∷ live) s found = by (t.number == n) refl found (stands_at n live s)
  where
    by : (b : Bool) → (t.number == n) ≡ b → cond b (Some t) (selector_of n live) ≡ Some s → (selector_of n live ≡ Some s → (i : ℕ) × (slice_get live i ≡ Some s) × (s.number ≡ n))
        → (i : ℕ) × (slice_get (t ∷ live) i ≡ Some s) × (s.number ≡ n)
    by true is here rest = (zero, here, ap (λ (u : Live). u.number) (sym (same_Some t s here)) ∙ eqb-true t.number n is)
    by false is here rest = let later = rest here in (suc later.0, later.1, later.2)

pub known_trying : (ns : List ℕ) (live : List Live) (j : ℕ) (s : Live) → j < length ns → Ascends ns → AreLive live → selector_of (slice_index ns j) live ≡ Some s → (i : ℕ) × Trying ns live j i s
known_trying ns live j s within tried_ascend are found =
    let there = stands_at (slice_index ns j) live s found in
    (there.0, record { tried_ascend = tried_ascend; ascend = are.numbers; tried_at = slice_get-get_or ns j 0 within ∙ ap Some (sym there.2); at = there.1 })

pub every_at : {X : Type 0} (P : X → Type 0) (xs : List X) (i : ℕ) (x : X) → AllByRecursion P xs → slice_get xs i ≡ Some x → P x
every_at P [] i x all at = absurd (let wrong : ⊥ = cc in wrong)
every_at P (y ∷ xs) zero x all at = subst P (let same : y ≡ x = cc in same) all.0
every_at P (y ∷ xs) (suc i) x all at = every_at P xs i x all.1 at

pub every_selected : (P : Live → Type 0) (n : ℕ) (live : List Live) (s : Live) → AllByRecursion P live → selector_of n live ≡ Some s → P s
every_selected P n live s all found = let there = stands_at n live s found in every_at P live there.0 s all there.1

module _ (ns : List ℕ) (live : List Live) (j i : ℕ) (s : Live) (known : Trying ns live j i s) where
  next_tried : of_numbers (take (j + 1) ns) live ≡ of_numbers (take j ns) live ++ s ∷ []
  next_tried = ap (λ done. of_numbers done live) (take_next ns j s.number known.tried_at) ∙ one_more (take j ns) live i s known.ascend (below_taken ns j s.number known.tried_ascend known.tried_at) known.at

  pub tried_so_far : (rows : List IdentityRow) → changes_for rows (of_numbers (take (j + 1) ns) live) ≡ changes_for rows (of_numbers (take j ns) live) ++ cons_option (change_to (set_at rows s.peer) s) []
  tried_so_far rows = ap (changes_for rows) next_tried ∙ filter_map-append (λ (t : Live). change_to (set_at rows t.peer) t) (of_numbers (take j ns) live) (s ∷ [])

  labels_tried : label_selectors (of_numbers (take (j + 1) ns) live) ≡ label_selectors (of_numbers (take j ns) live) + steps_of s.peer
  labels_tried = ap label_selectors next_tried ∙ labels_pushed (of_numbers (take j ns) live)
    where
      labels_pushed : (others : List Live) → label_selectors (others ++ s ∷ []) ≡ label_selectors others + steps_of s.peer
      labels_pushed [] = let one = labels-cons s [] in omega arith
      labels_pushed (t ∷ others) =
          let more = labels-cons t (others ++ s ∷ []) in
          let before = labels-cons t others in
          let rest = labels_pushed others in
          omega arith

  module _ (start now later come : ℕ) (before : now ≤ start + label_selectors (of_numbers (take j ns) live) * come) (one : later ≤ now + steps_of s.peer * come) where
    pub cost_tried : later ≤ start + label_selectors (of_numbers (take (j + 1) ns) live) * come
    cost_tried = let next = ap (λ n. n * come) labels_tried in omega arith

    pub cost_tried_all : later ≤ start + label_selectors live * come
    cost_tried_all =
        let so_far = cost_tried in
        let all = mul-le-mul_left come (labels_among (take (j + 1) ns) live) in
        omega arith
