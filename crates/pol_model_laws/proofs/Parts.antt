-- Rows that are part of others, counts aside: what a hold adds and a release takes away.
use Rattle.std.proofs.Common.{zero, suc, ◌≡◌, ℕ, ◌+◌, ◌-◌, ◌==◌, Bool, true, false, cond, List, [], ◌∷◌, map, filter, count_by, nat_lt, Option, None, Some, inl, inr, refl, sym, ap, ◌∙◌, subst}
use Rattle.std.specs.List.{insert}
use Rattle.std.proofs.lemmas.Bool.{eqb-true, eq-eqb, both_ways, cases_Bool}
use Rattle.pol_addr.specs.declared.network.Prefix.{Prefix}
use Rattle.pol_labels.specs.declared.label.Label.{Label}
use Rattle.pol_data.proofs.Members.{In}
use Rattle.pol_model.specs.declared.limits.TheConstants.{CLUSTER_FIRST, LOCAL_FIRST}
use Rattle.pol_model.specs.declared.row.IdentityRow.{IdentityRow}
use Rattle.pol_model_laws.specs.Holding.{has_row, uncounted, IsPartOf}
use Rattle.pol_model.specs.Identities.{free_number, held_or_new, labels_held, number_released, number_of_labels, recounted, released, with_holder}
use Rattle.pol_model.specs.Numbers.{placed_by}
use Rattle.pol_model.specs.Prefixes.{number_of_prefix, prefix_held, prefixes_held, prefix_released, prefixes_released}
use Rattle.pol_model.proofs.AscendingStates.{RowsAscend, released_ascend, held_ascend}
use Rattle.pol_model_laws.proofs.Keyed.{one_of_number}
use Rattle.pol_model.proofs.LeastFree.{least_free-free}
use Rattle.pol_model_laws.proofs.Membership.{In-filter, filter-In, In-map, map-In, list_any-In, In-list_any, list_any-map}
use Rattle.pol_model_laws.proofs.PrefixHolders.{same_tests}
use Rattle.pol_model_laws.proofs.Rows.{recounted-is}

-- filters that agree on the elements of a list keep the same
pub filter_same : {X : Type 0} (p q : X → Bool) (xs : List X) → ((x : X) → In x xs → p x ≡ q x) → filter p xs ≡ filter q xs
filter_same p q [] same = refl
filter_same p q (x ∷ xs) same =
    let here = same x (inl refl) in
    let others = filter_same p q xs (λ y there. same y (inr there)) in
    rw (here, others) refl

filter_all : {X : Type 0} (p : X → Bool) (xs : List X) → ((x : X) → In x xs → p x ≡ true) → filter p xs ≡ xs
filter_all p [] all = refl
filter_all p (x ∷ xs) all =
    let here = all x (inl refl) in
    let others = filter_all p xs (λ y there. all y (inr there)) in
    rw (here, others) refl

filter_twice : {X : Type 0} (p q : X → Bool) (xs : List X) → ((x : X) → p x ≡ true → q x ≡ true) → filter p (filter q xs) ≡ filter p xs
filter_twice p q [] implies = refl
filter_twice p q (x ∷ xs) implies =
    let others = filter_twice p q xs implies in
    elim (cases_Bool (q x)) [
      | inl kept ↦ rw (kept, others) refl
      | inr gone ↦ elim (cases_Bool (p x)) [
        | inl passes ↦ absurd (both_ways (q x) gone (implies x passes))
        | inr fails ↦ rw (gone, fails, others) refl
      ]
    ]

filter_insert : {X : Type 0} (p : X → Bool) (x : X) (i : ℕ) (xs : List X) → p x ≡ false → filter p (insert xs i x) ≡ filter p xs
filter_insert p x zero xs fails = rw fails refl
filter_insert p x (suc i) [] fails = rw fails refl
filter_insert p x (suc i) (y ∷ ys) fails = ap (λ rest. cond (p y) (y ∷ rest) rest) (filter_insert p x i ys fails)

map_insert : {X Y : Type 0} (f : X → Y) (x : X) (i : ℕ) (xs : List X) → map f (insert xs i x) ≡ insert (map f xs) i (f x)
map_insert f x zero xs = refl
map_insert f x (suc i) [] = refl
map_insert f x (suc i) (y ∷ ys) = ap (λ rest. f y ∷ rest) (map_insert f x i ys)

-- the rows without their counts are those of a changed count
uncounted_recounted : (number : ℕ) (count : ℕ → ℕ) (rows : List IdentityRow) → map uncounted (map (recounted number count) rows) ≡ map uncounted rows
uncounted_recounted number count [] = refl
uncounted_recounted number count (row ∷ rows) =
    let here = ap uncounted (recounted-is number count row) in
    let others = uncounted_recounted number count rows in
    λ i. here i ∷ others i

-- a row's number has a row
own_row : (row : IdentityRow) (rows : List IdentityRow) → In row rows → has_row row.number rows ≡ true
own_row row rows there = list_any-In (λ other. other.number == row.number) row rows there (eq-eqb row.number row.number refl)

uncounted_own : (rows : List IdentityRow) (row : IdentityRow) → In row (map uncounted rows) → has_row row.number rows ≡ true
uncounted_own rows row there =
    let from = In-map uncounted row rows there in
    subst (λ r. has_row r.number rows ≡ true) from.2 (own_row from.0 rows from.1)

pub part-itself : (rows : List IdentityRow) → IsPartOf rows rows
part-itself rows = filter_all (λ row. has_row row.number rows) (map uncounted rows) (uncounted_own rows)

pub part-with_holder : (number : ℕ) (rows : List IdentityRow) → IsPartOf rows (with_holder number rows)
part-with_holder number rows =
    ap (filter (λ row. has_row row.number rows)) (uncounted_recounted number (λ count. count + 1) rows) ∙ part-itself rows

pub part-placed : (new : IdentityRow) (rows : List IdentityRow) → has_row new.number rows ≡ false → IsPartOf rows (placed_by (λ row. row.number) new rows)
part-placed new rows free =
    let place = count_by (λ row. nat_lt row.number new.number) rows in
    ap (filter (λ row. has_row row.number rows)) (map_insert uncounted new place rows)
    ∙ filter_insert (λ row. has_row row.number rows) (uncounted new) place (map uncounted rows) free
    ∙ part-itself rows

-- what has a row in the part has one in the whole
pub part-number : (rows others : List IdentityRow) → IsPartOf rows others → (number : ℕ) → has_row number rows ≡ true → has_row number others ≡ true
part-number rows others part number has =
    let one = In-list_any (λ row. row.number == number) rows has in
    let there = subst (λ list. In (uncounted one.0) list) (sym part) (map-In uncounted one.0 rows one.1) in
    let number_of = uncounted_own others (uncounted one.0) (In-filter (λ row. has_row row.number rows) (uncounted one.0) (map uncounted others) there).0 in
    subst (λ n. has_row n others ≡ true) (eqb-true one.0.number number one.2) number_of

pub part-trans : (one two three : List IdentityRow) → IsPartOf one two → IsPartOf two three → IsPartOf one three
part-trans one two three first second =
    sym (filter_twice (λ row. has_row row.number one) (λ row. has_row row.number two) (map uncounted three) (λ row has. part-number one two first row.number has))
    ∙ ap (filter (λ row. has_row row.number one)) second
    ∙ first

module _ (p : IdentityRow → Bool) (change : IdentityRow → IdentityRow) (kept : (row : IdentityRow) → uncounted (change row) ≡ uncounted row) where
  uncounted_kept : (q : IdentityRow → Bool) (rows : List IdentityRow) → ((row : IdentityRow) → In row rows → q (uncounted row) ≡ p (change row)) → filter q (map uncounted rows) ≡ map uncounted (filter p (map change rows))
  uncounted_kept q [] agree = refl
  uncounted_kept q (row ∷ rows) agree =
      let others = uncounted_kept q rows (λ other there. agree other (inr there)) in
      let here = agree row (inl refl) in
      elim (cases_Bool (p (change row))) [
        | inl stays ↦ rw (here, stays, others, kept row) refl
        | inr goes ↦ rw (here, goes, others) refl
      ]

pub part-released : (number : ℕ) (rows : List IdentityRow) → RowsAscend rows → IsPartOf (released number rows) rows
part-released number rows ascend =
    uncounted_kept (λ row. nat_lt 0 row.holders) change (λ row. ap uncounted (recounted-is number (λ count. count - 1) row)) (λ row. has_row row.number (released number rows)) rows
    (λ row there. same_tests (has_row row.number (released number rows)) (nat_lt 0 (change row).holders) (to row there) (back row there))
  where
    change : IdentityRow → IdentityRow
    change = recounted number (λ count. count - 1)

    number_kept : (row : IdentityRow) → (change row).number ≡ row.number
    number_kept row = ap (λ r. r.number) (recounted-is number (λ count. count - 1) row)

    to : (row : IdentityRow) → In row rows → has_row row.number (released number rows) ≡ true → nat_lt 0 (change row).holders ≡ true
    to row there has =
        let one = In-list_any (λ other. other.number == row.number) (released number rows) has in
        let held = In-filter (λ other. nat_lt 0 other.holders) one.0 (map change rows) one.1 in
        let from = In-map change one.0 rows held.0 in
        let numbers = sym (number_kept from.0) ∙ ap (λ r. r.number) from.2 ∙ eqb-true one.0.number row.number one.2 in
        let same = one_of_number (λ r. r.number) from.0 row rows ascend from.1 there numbers in
        subst (λ r. nat_lt 0 (change r).holders ≡ true) same (subst (λ r. nat_lt 0 r.holders ≡ true) (sym from.2) held.1)

    back : (row : IdentityRow) → In row rows → nat_lt 0 (change row).holders ≡ true → has_row row.number (released number rows) ≡ true
    back row there stays =
        list_any-In (λ other. other.number == row.number) (change row) (released number rows)
        (filter-In (λ other. nat_lt 0 other.holders) (change row) (map change rows) (map-In change row rows there) stays)
        (eq-eqb (change row).number row.number (number_kept row))

-- what a hold adds
pub free_row : (first : ℕ) (rows : List IdentityRow) → RowsAscend rows → has_row (free_number first rows) rows ≡ false
free_row first rows ascend = sym (list_any-map (λ row. row.number) (λ n. n == free_number first rows) rows) ∙ least_free-free first (map (λ row. row.number) rows) ascend

part-held_or_new : (o : Option ℕ) (new : IdentityRow) (first : ℕ) (rows : List IdentityRow) → RowsAscend rows → new.number ≡ free_number first rows → IsPartOf rows (held_or_new o new rows)
part-held_or_new (Some number) new first rows ascend free = part-with_holder number rows
part-held_or_new None new first rows ascend free = part-placed new rows (subst (λ n. has_row n rows ≡ false) (sym free) (free_row first rows ascend))

pub part-labels_held : (labels : List Label) (rows : List IdentityRow) → RowsAscend rows → IsPartOf rows (labels_held labels rows)
part-labels_held labels rows ascend = part-held_or_new (number_of_labels labels rows) _ CLUSTER_FIRST rows ascend refl

pub part-prefixes_held : (prefixes : List Prefix) (rows : List IdentityRow) → RowsAscend rows → IsPartOf rows (prefixes_held prefixes rows)
part-prefixes_held [] rows ascend = part-itself rows
part-prefixes_held (prefix ∷ others) rows ascend =
    part-trans rows (prefix_held prefix rows) (prefixes_held others (prefix_held prefix rows))
    (part-held_or_new (number_of_prefix prefix rows) _ LOCAL_FIRST rows ascend refl)
    (part-prefixes_held others (prefix_held prefix rows) (held_ascend (number_of_prefix prefix rows) _ LOCAL_FIRST rows refl ascend))

-- what a release takes away
pub part-number_released : (o : Option ℕ) (rows : List IdentityRow) → RowsAscend rows → IsPartOf (number_released o rows) rows
part-number_released None rows ascend = part-itself rows
part-number_released (Some number) rows ascend = part-released number rows ascend

pub part-prefixes_released : (prefixes : List Prefix) (rows : List IdentityRow) → RowsAscend rows → IsPartOf (prefixes_released prefixes rows) rows
part-prefixes_released [] rows ascend = part-itself rows
part-prefixes_released (prefix ∷ others) rows ascend =
    part-trans (prefixes_released others (prefix_released prefix rows)) (prefix_released prefix rows) rows
    (part-prefixes_released others (prefix_released prefix rows) (released_ascend (number_of_prefix prefix rows) rows ascend))
    (part-number_released (number_of_prefix prefix rows) rows ascend)

-- a row of the whole whose number has a row in the part is that row, its count aside
pub part-row : (rows others : List IdentityRow) → IsPartOf rows others → (row : IdentityRow) → In row others → has_row row.number rows ≡ true → (own : IdentityRow) × In own rows × (uncounted own ≡ uncounted row)
part-row rows others part row there has =
    let kept = filter-In (λ r. has_row r.number rows) (uncounted row) (map uncounted others) (map-In uncounted row others there) has in
    In-map uncounted (uncounted row) rows (subst (λ list. In (uncounted row) list) part kept)
