-- Holding prefixes, one after another, in rows that fit together.
use Rattle.std.proofs.Common.{◌≡◌, ℕ, ◌+◌, ◌==◌, ◌≤◌, Bool, true, false, not, cond, List, [], ◌∷◌, map, count_by, nat_lt, nat_le, Option, None, Some, is_none, inr, refl, sym, ap, ◌∙◌, subst, arith}
use Rattle.std.specs.List.{AllByRecursion}
use Rattle.std.proofs.lemmas.Bool.{le-leb, eqb-true, eq-eqb, and_from, both_ways, false≢true, false_from_ne_true}
use Rattle.std.proofs.lemmas.Bool.Decides.{nat_tests}
use Rattle.std.proofs.lemmas.List.Sums.{sum_by-cons, sum_by-insert, sum_by-le-sum_by}
use Rattle.pol_addr.specs.Cidr.{IsPrefix}
use Rattle.pol_addr.specs.declared.network.Prefix.{Prefix}
use Rattle.pol_addr.proofs.ByFamily.{same_addr-self}
use Rattle.pol_addr.specs.Prefix.{same_prefix}
use Rattle.pol_data.proofs.Members.{In}
use Rattle.pol_model.specs.declared.limits.TheConstants.{LOCAL_FIRST, LOCAL_LAST, LOCAL_IDENTITIES}
use Rattle.pol_model.specs.declared.row.IdentityRow.{IdentityRow}
use Rattle.pol_model.specs.Fault.{locals_held, locals_wanted}
use Rattle.pol_model_laws.specs.Holding.{is_held}
use Rattle.pol_model.specs.Identities.{is_local, free_number, held_or_new, recounted}
use Rattle.pol_model.specs.Numbers.{least_free}
use Rattle.pol_model.specs.Prefixes.{has_prefix, prefix_row, number_of_prefix, prefix_held, prefixes_held}
use Rattle.pol_model_laws.proofs.Holders.{number_where-some, number_where-none, free-none}
use Rattle.pol_model_laws.proofs.Keyed.{one_of_number, placed-kept}
use Rattle.pol_model.proofs.LeastFree.{first-le}
use Rattle.pol_model_laws.proofs.Ledger.{Ledger, same_prefix-is, has_prefix-is, recounted_ledger, placed_ledger}
use Rattle.pol_model_laws.proofs.Membership.{find-In, list_any-In, In-list_any, none-In}
use Rattle.pol_model_laws.proofs.Rows.{recounted-any, recounted-count}

-- one more of one prefix
abbrev pub one_prefix : Prefix → Option Prefix → ℕ
one_prefix prefix own = cond (has_prefix prefix own) 1 0

pub same_prefix-itself : (prefix : Prefix) → same_prefix prefix prefix ≡ true
same_prefix-itself prefix = and_from _ _ (same_addr-self prefix.addr) (eq-eqb prefix.len prefix.len refl)

pub has_prefix-at : (prefix : Prefix) (own : Option Prefix) → own ≡ Some prefix → has_prefix prefix own ≡ true
has_prefix-at prefix own is = rw is (same_prefix-itself prefix)

pub same_tests : (a b : Bool) → (a ≡ true → b ≡ true) → (b ≡ true → a ≡ true) → a ≡ b
same_tests true b to back = sym (to refl)
same_tests false true to back = back refl
same_tests false false to back = refl

pub same_prefix-turned : (one other : Prefix) → same_prefix one other ≡ same_prefix other one
same_prefix-turned one other = same_tests (same_prefix one other) (same_prefix other one) (turned one other) (turned other one)
  where
    turned : (p q : Prefix) → same_prefix p q ≡ true → same_prefix q p ≡ true
    turned p q same = subst (λ r. same_prefix r p ≡ true) (same_prefix-is p q same) (same_prefix-itself p)

more_where : (h x y : ℕ) (b : Bool) → h ≡ x + y → cond b (h + 1) h ≡ x + (y + cond b 1 0)
more_where h x y true is = omega (arith, is)
more_where h x y false is = omega (arith, is)

none_where : (h x y : ℕ) (b : Bool) → h ≡ x + y → b ≡ false → h ≡ x + (y + cond b 1 0)
none_where h x y b is not_there = rw not_there (omega (arith, is))

first_where : (x y : ℕ) (b : Bool) → x ≡ 0 → y ≡ 0 → b ≡ true → 1 ≡ x + (y + cond b 1 0)
first_where x y b no_x no_y there = rw there (omega (arith, no_x, no_y))

none_either : (y : ℕ) (b : Bool) → y ≡ 0 → b ≡ false → y + cond b 1 0 ≡ 0
none_either y b no_y not_there = rw not_there (omega (arith, no_y))

module _ {by_number : ℕ → ℕ} {by_prefix : Option Prefix → ℕ} {rows : List IdentityRow} (ledger : Ledger by_number by_prefix rows) where
  -- a row has the number of the prefix's row exactly where it has the prefix
  pub prefix_of_number : (prefix : Prefix) (number : ℕ) → number_of_prefix prefix rows ≡ Some number → (row : IdentityRow) → In row rows → (row.number == number) ≡ has_prefix prefix row.prefix
  prefix_of_number prefix number is row there =
      let its = number_where-some (λ row. has_prefix prefix row.prefix) rows number is in
      let found = find-In (λ row. has_prefix prefix row.prefix) its.0 rows its.1 in
      same_tests (row.number == number) (has_prefix prefix row.prefix)
      (λ same.
      let one = one_of_number (λ row. row.number) its.0 row rows ledger.ascend found.0 there (its.2 ∙ sym (eqb-true row.number number same)) in
      subst (λ r. has_prefix prefix r.prefix ≡ true) one found.1)
      (λ has.
      eq-eqb row.number number
      (ledger.prefixes row its.0 there found.0 (prefix, has_prefix-is prefix row.prefix has, has_prefix-is prefix its.0.prefix found.1) ∙ its.2))

  -- one holder more of a prefix that has a row
  prefix_found : (prefix : Prefix) (number : ℕ) → number_of_prefix prefix rows ≡ Some number
      → Ledger by_number (λ own. by_prefix own + one_prefix prefix own) (map (recounted number (λ count. count + 1)) rows)
  prefix_found prefix number is =
      let its = number_where-some (λ row. has_prefix prefix row.prefix) rows number is in
      let found = find-In (λ row. has_prefix prefix row.prefix) its.0 rows its.1 in
      let held : is_held prefix rows ≡ true = list_any-In (λ row. has_prefix prefix row.prefix) its.0 rows found.0 found.1 in
      recounted_ledger ledger by_number (λ own. by_prefix own + one_prefix prefix own) number (λ count. count + 1)
      (λ row here taken. rw (prefix_of_number prefix number is row here) (more_where row.holders (by_number row.number) (by_prefix row.prefix) (has_prefix prefix row.prefix) taken.count))
      ledger.numbers_there
      (λ own none.
      none_either (by_prefix (Some own)) (same_prefix prefix own) (ledger.prefixes_there own none)
      (false_from_ne_true (same_prefix prefix own) (λ same. both_ways (is_held own rows) none (subst (λ p. is_held p rows ≡ true) (same_prefix-is prefix own same) held))))

  -- a prefix takes a new row
  prefix_new : (prefix : Prefix) → IsPrefix prefix → number_of_prefix prefix rows ≡ None → free_number LOCAL_FIRST rows ≤ LOCAL_LAST
      → Ledger by_number (λ own. by_prefix own + one_prefix prefix own) (held_or_new None (prefix_row prefix (free_number LOCAL_FIRST rows)) rows)
  prefix_new prefix within none room =
      let free = free_number LOCAL_FIRST rows in
      let new = prefix_row prefix free in
      let nothing = number_where-none (λ row. has_prefix prefix row.prefix) rows none in
      let from = first-le LOCAL_FIRST (map (λ row. row.number) rows) in
      placed_ledger ledger by_number (λ own. by_prefix own + one_prefix prefix own) new
      (inr (record { from = from; upto = room; own = prefix; prefix = refl; within = within; labels = refl }))
      (free-none ledger LOCAL_FIRST)
      (λ old there same. both_ways (is_local free) same.0 (le-leb LOCAL_FIRST free from))
      (λ old there same.
      both_ways (has_prefix prefix old.prefix) (none-In (λ row. has_prefix prefix row.prefix) old rows nothing there)
      (has_prefix-at prefix old.prefix (same.2 ∙ sym same.1)))
      (first_where (by_number free) (by_prefix (Some prefix)) (same_prefix prefix prefix) (ledger.numbers_there free (free-none ledger LOCAL_FIRST)) (ledger.prefixes_there prefix nothing) (same_prefix-itself prefix))
      (λ row there taken. none_where row.holders (by_number row.number) (by_prefix row.prefix) (has_prefix prefix row.prefix) taken.count (none-In (λ row. has_prefix prefix row.prefix) row rows nothing there))
      (λ n none other. ledger.numbers_there n none)
      (λ own none other. none_either (by_prefix (Some own)) (same_prefix prefix own) (ledger.prefixes_there own none) (same_prefix-turned prefix own ∙ other))

  -- one holder more of a prefix
  pub hold_prefix : (prefix : Prefix) → IsPrefix prefix → (number_of_prefix prefix rows ≡ None → free_number LOCAL_FIRST rows ≤ LOCAL_LAST)
      → Ledger by_number (λ own. by_prefix own + one_prefix prefix own) (prefix_held prefix rows)
  hold_prefix prefix within room = held (number_of_prefix prefix rows) refl
    where
      held : (o : Option ℕ) → number_of_prefix prefix rows ≡ o
          → Ledger by_number (λ own. by_prefix own + one_prefix prefix own) (held_or_new o (prefix_row prefix (free_number LOCAL_FIRST rows)) rows)
      held (Some number) is = prefix_found prefix number is
      held None is = prefix_new prefix within is (room is)

-- how many of the prefixes it is
abbrev pub times : List Prefix → Option Prefix → ℕ
times prefixes own = count_by (λ prefix. has_prefix prefix own) prefixes

pub times-cons : (prefix : Prefix) (prefixes : List Prefix) (own : Option Prefix) → times (prefix ∷ prefixes) own ≡ one_prefix prefix own + times prefixes own
times-cons prefix prefixes own = sum_by-cons (λ prefix. cond (has_prefix prefix own) 1 0) prefix prefixes

-- the same counts
pub same_ledger : {by_number now_number : ℕ → ℕ} {by_prefix now_prefix : Option Prefix → ℕ} {rows : List IdentityRow}
    → ((number : ℕ) → by_number number ≡ now_number number) → ((own : Option Prefix) → by_prefix own ≡ now_prefix own) → Ledger by_number by_prefix rows → Ledger now_number now_prefix rows
same_ledger {by_number} {now_number} {by_prefix} {now_prefix} {rows} numbers prefixes ledger =
    subst (λ f. Ledger f now_prefix rows) (λ i number. numbers number i) (subst (λ f. Ledger by_number f rows) (λ i own. prefixes own i) ledger)

-- a free number is no further than there are numbers taken
free_step : (n first here next count more : ℕ) → here ≤ first + count → next ≤ first + 1 + more → more ≤ count → cond (nat_lt n first) here (cond (n == first) next first) ≤ first + (cond (nat_le first n) 1 0 + count)
free_step n first here next count more is_here is_next fewer = grind (arith, nat_tests, is_here, is_next, fewer)

fewer_above : (first n : ℕ) → cond (nat_le (first + 1) n) 1 0 ≤ cond (nat_le first n) 1 0
fewer_above first n = grind (arith, nat_tests)

pub least_free-within : {X : Type 0} (number : X → ℕ) (first : ℕ) (xs : List X) → least_free first (map number xs) ≤ first + count_by (λ x. nat_le first (number x)) xs
least_free-within number first [] = omega arith
least_free-within number first (x ∷ xs) =
    rw (sum_by-cons (λ x. cond (nat_le first (number x)) 1 0) x xs)
    (free_step (number x) first _ _ _ (count_by (λ x. nat_le (first + 1) (number x)) xs)
    (least_free-within number first xs) (least_free-within number (first + 1) xs)
    (sum_by-le-sum_by (λ x. cond (nat_le (first + 1) (number x)) 1 0) (λ x. cond (nat_le first (number x)) 1 0) xs (λ x. fewer_above first (number x))))

-- there is room for as many prefixes as are wanted
abbrev pub HasRoom : List IdentityRow → List Prefix → Type 0
HasRoom rows prefixes = locals_held rows + locals_wanted rows prefixes ≤ LOCAL_IDENTITIES

room_now : (prefix : Prefix) (others : List Prefix) (rows : List IdentityRow) → HasRoom rows (prefix ∷ others) → number_of_prefix prefix rows ≡ None → free_number LOCAL_FIRST rows ≤ LOCAL_LAST
room_now prefix others rows room none =
    let free = least_free-within (λ row. row.number) LOCAL_FIRST rows in
    let wanted = sum_by-cons (λ prefix. cond (is_none (number_of_prefix prefix rows)) 1 0) prefix others in
    let this = ap {B = ℕ} (λ o. cond (is_none o) 1 0) none in
    omega (arith, free, room, wanted, this)

pub is_held-number : (prefix : Prefix) (rows : List IdentityRow) → is_none (number_of_prefix prefix rows) ≡ not (is_held prefix rows)
is_held-number prefix rows = told (number_of_prefix prefix rows) refl
  where
    told : (o : Option ℕ) → number_of_prefix prefix rows ≡ o → is_none o ≡ not (is_held prefix rows)
    told None is = ap not (sym (number_where-none (λ row. has_prefix prefix row.prefix) rows is))
    told (Some number) is =
        let its = number_where-some (λ row. has_prefix prefix row.prefix) rows number is in
        let found = find-In (λ row. has_prefix prefix row.prefix) its.0 rows its.1 in
        ap not (sym (list_any-In (λ row. has_prefix prefix row.prefix) its.0 rows found.0 found.1))

fewer_where : (a b : Bool) → (b ≡ true → a ≡ true) → cond (not a) 1 0 ≤ cond (not b) 1 0
fewer_where true b to = omega arith
fewer_where false true to = absurd (false≢true (to refl))
fewer_where false false to = omega arith

wanted_less : (rows now : List IdentityRow) → ((prefix : Prefix) → is_held prefix rows ≡ true → is_held prefix now ≡ true) → (prefixes : List Prefix) → locals_wanted now prefixes ≤ locals_wanted rows prefixes
wanted_less rows now kept prefixes =
    sum_by-le-sum_by (λ prefix. cond (is_none (number_of_prefix prefix now)) 1 0) (λ prefix. cond (is_none (number_of_prefix prefix rows)) 1 0) prefixes
    (λ prefix. rw (is_held-number prefix now, is_held-number prefix rows) (fewer_where (is_held prefix now) (is_held prefix rows) (kept prefix)))

-- a prefix that is held stays held
pub held_more : (prefix own : Prefix) (rows : List IdentityRow) → is_held own rows ≡ true → is_held own (prefix_held prefix rows) ≡ true
held_more prefix own rows held = more (number_of_prefix prefix rows)
  where
    more : (o : Option ℕ) → is_held own (held_or_new o (prefix_row prefix (free_number LOCAL_FIRST rows)) rows) ≡ true
    more (Some number) = recounted-any (λ row. has_prefix own row.prefix) (λ row c. refl) number (λ count. count + 1) rows ∙ held
    more None =
        let one = In-list_any (λ row. has_prefix own row.prefix) rows held in
        list_any-In (λ row. has_prefix own row.prefix) one.0 _ (placed-kept (λ row. row.number) (prefix_row prefix (free_number LOCAL_FIRST rows)) one.0 rows one.1) one.2

one_at_most : (b : Bool) → cond b 1 0 ≤ 1
one_at_most true = omega arith
one_at_most false = omega arith

locals_more : (prefix : Prefix) (rows : List IdentityRow) → locals_held (prefix_held prefix rows) ≤ cond (is_none (number_of_prefix prefix rows)) 1 0 + locals_held rows
locals_more prefix rows = more (number_of_prefix prefix rows)
  where
    more : (o : Option ℕ) → locals_held (held_or_new o (prefix_row prefix (free_number LOCAL_FIRST rows)) rows) ≤ cond (is_none o) 1 0 + locals_held rows
    more (Some number) = let same = recounted-count (λ row. is_local row.number) (λ row c. refl) number (λ count. count + 1) rows in omega (arith, same)
    more None =
        let new = prefix_row prefix (free_number LOCAL_FIRST rows) in
        let added = sum_by-insert (λ row. cond (is_local row.number) 1 0) rows (count_by (λ row. nat_lt row.number new.number) rows) new in
        omega (arith, added, one_at_most (is_local new.number))

room_more : (prefix : Prefix) (others : List Prefix) (rows : List IdentityRow) → HasRoom rows (prefix ∷ others) → HasRoom (prefix_held prefix rows) others
room_more prefix others rows room =
    let wanted = sum_by-cons (λ prefix. cond (is_none (number_of_prefix prefix rows)) 1 0) prefix others in
    let less = wanted_less rows (prefix_held prefix rows) (λ own held. held_more prefix own rows held) others in
    let locals = locals_more prefix rows in
    omega (arith, wanted, less, locals, room)

-- one holder more of each prefix
pub hold_prefixes : (prefixes : List Prefix) (rows : List IdentityRow) (by_number : ℕ → ℕ) (by_prefix : Option Prefix → ℕ) → Ledger by_number by_prefix rows → AllByRecursion IsPrefix prefixes → HasRoom rows prefixes
    → Ledger by_number (λ own. by_prefix own + times prefixes own) (prefixes_held prefixes rows)
hold_prefixes [] rows by_number by_prefix ledger within room = same_ledger (λ n. refl) (λ own. omega arith) ledger
hold_prefixes (prefix ∷ others) rows by_number by_prefix ledger within room =
    same_ledger (λ n. refl) (λ own. omega (arith, times-cons prefix others own))
    (hold_prefixes others (prefix_held prefix rows) by_number (λ own. by_prefix own + one_prefix prefix own)
    (hold_prefix ledger prefix within.0 (room_now prefix others rows room)) within.1 (room_more prefix others rows room))
