-- Elements by name, as a table of names keeps them.
use Rattle.std.proofs.Common.{◌≡◌, ◌⊎◌, ℕ, zero, suc, false, List, [], ◌∷◌, map, drop, refl, ap, ◌∙◌, inl, inr}
use Rattle.std.specs.List.{AllByRecursion, IsDistinct}
use Rattle.std.specs.Str.{bytes_eq}
use Rattle.std.specs.BTreeMap.{insert_entry}
use Rattle.std.specs.Cmp.Lexicographic.{slice_cmp}
use Rattle.std.specs.List.Sorted.{IsStrictlySortedBy}
use Rattle.std.specs.Ordering.{is_eq, match_ordering, nat_cmp, on, ordering_reverse}
use Rattle.std.proofs.lemmas.Cmp.{nat_list_cmp_total}
use Rattle.pol_data.proofs.Every.{every-weaker}
use Rattle.pol_data.proofs.Members.{In, every-from_in, every-in}
use Rattle.std.specs.declared.cmp.Ordering.{Ordering}
use Rattle.std.specs.declared.cmp.Ordering.TheVariants.{Less, Equal, Greater}
use Rattle.std.proofs.lemmas.Map.Text.{is_eq-slice_cmp}
use Rattle.pol_connections.specs.Ends.{by_name, put_by}

module _ {X : Type 0} (name : X → List ℕ) where
  -- ---- what holds of each holds of each by name
  module _ (P : X → Type 0) where
    pub every_put : (x : X) (ys : List X) → P x → AllByRecursion P ys → AllByRecursion P (put_by name x ys)
    every_put x [] one all = (one, tt)
    every_put x (y ∷ ys) one all = by (slice_cmp nat_cmp (name x) (name y)) (every_put x ys one all.1)
      where
        by : (o : Ordering) → AllByRecursion P (put_by name x ys) → AllByRecursion P (match_ordering o (x ∷ y ∷ ys) (x ∷ y ∷ ys) (y ∷ put_by name x ys))
        by Less rest = (one, all)
        by Equal rest = (one, all)
        by Greater rest = (all.0, rest)

    pub every_by_name : (xs : List X) → AllByRecursion P xs → AllByRecursion P (by_name name xs)
    unfolding by_name
    every_by_name [] all = tt
    every_by_name (x ∷ xs) all = every_put x (by_name name xs) all.0 (every_by_name xs all.1)

  pub apart_names : (n : List ℕ) (xs : List X) → AllByRecursion (λ m. bytes_eq n m ≡ false) (map name xs) → AllByRecursion (λ x. bytes_eq n (name x) ≡ false) xs
  apart_names n [] all = tt
  apart_names n (x ∷ xs) all = (all.0, apart_names n xs all.1)

  -- ---- in a table
  module _ {V : Type 0} (value : X → V) where
    abbrev pub entry_of : X → List ℕ × V
    entry_of x = (name x, value x)

    placed : (x : X) (ys : List X) → AllByRecursion (λ y. bytes_eq (name x) (name y) ≡ false) ys
        → insert_entry (slice_cmp nat_cmp) (map entry_of ys) (name x) (value x) ≡ map entry_of (put_by name x ys)
    placed x [] other = refl
    placed x (y ∷ ys) other = by (slice_cmp nat_cmp (name x) (name y)) (is_eq-slice_cmp (name x) (name y) ∙ other.0) (placed x ys other.1)
      where
        by : (o : Ordering) → is_eq o ≡ false → insert_entry (slice_cmp nat_cmp) (map entry_of ys) (name x) (value x) ≡ map entry_of (put_by name x ys)
            → match_ordering o (entry_of x ∷ entry_of y ∷ map entry_of ys) ((name y, value x) ∷ map entry_of ys) (entry_of y ∷ insert_entry (slice_cmp nat_cmp) (map entry_of ys) (name x) (value x))
            ≡ map entry_of (match_ordering o (x ∷ y ∷ ys) (x ∷ y ∷ ys) (y ∷ put_by name x ys))
        by Less differ rest = refl
        by Equal differ rest = absurd (let wrong : ⊥ = cc in wrong)
        by Greater differ rest = ap (λ es. entry_of y ∷ es) rest

    pub one_more : (x : X) (xs : List X) (table : List (List ℕ × V)) → IsDistinct bytes_eq (map name (x ∷ xs)) → table ≡ map entry_of (by_name name xs)
        → insert_entry (slice_cmp nat_cmp) table (name x) (value x) ≡ map entry_of (by_name name (x ∷ xs))
    unfolding by_name IsDistinct
    one_more x xs table apart is =
        ap (λ es. insert_entry (slice_cmp nat_cmp) es (name x) (value x)) is
        ∙ placed x (by_name name xs) (every_by_name (λ y. bytes_eq (name x) (name y) ≡ false) xs (apart_names (name x) xs apart.0))

    pub none_yet : (table : List (List ℕ × V)) → table ≡ [] → table ≡ map entry_of (by_name name [])
    unfolding by_name
    none_yet table is = is

  pub apart_drop : (k : ℕ) (xs : List X) → IsDistinct bytes_eq (map name xs) → IsDistinct bytes_eq (map name (drop k xs))
  unfolding IsDistinct
  apart_drop zero xs apart = apart
  apart_drop (suc k) [] apart = apart
  apart_drop (suc k) (x ∷ xs) apart = apart_drop k xs apart.1

-- ---- the same elements, each before those behind it
abbrev pub name_cmp : {X : Type 0} → (X → List ℕ) → X → X → Ordering
name_cmp name = on name (slice_cmp nat_cmp)

module _ {X : Type 0} (name : X → List ℕ) where
  in_put : (x y : X) (ys : List X) → (x ≡ y) ⊎ In y ys → In y (put_by name x ys)
  in_put x y [] (inl same) = inl same
  in_put x y [] (inr later) = elim later [ ]
  in_put x y (z ∷ zs) there = by (slice_cmp nat_cmp (name x) (name z)) there (in_put x y zs)
    where
      by : (o : Ordering) → (x ≡ y) ⊎ In y (z ∷ zs) → ((x ≡ y) ⊎ In y zs → In y (put_by name x zs)) → In y (match_ordering o (x ∷ z ∷ zs) (x ∷ z ∷ zs) (z ∷ put_by name x zs))
      by Less there rest = there
      by Equal there rest = there
      by Greater (inl same) rest = inr (rest (inl same))
      by Greater (inr (inl first)) rest = inl first
      by Greater (inr (inr later)) rest = inr (rest (inr later))

  pub in_by_name : (y : X) (xs : List X) → In y xs → In y (by_name name xs)
  unfolding by_name
  in_by_name y [] there = elim there [ ]
  in_by_name y (x ∷ xs) (inl same) = in_put x y (by_name name xs) (inl same)
  in_by_name y (x ∷ xs) (inr later) = in_put x y (by_name name xs) (inr (in_by_name y xs later))

  pub from_by_name : (y : X) (xs : List X) → In y (by_name name xs) → In y xs
  from_by_name y xs there = every-in (λ z. In z xs) (by_name name xs) (every_by_name name (λ z. In z xs) xs (every-from_in (λ z. In z xs) xs (λ z at. at))) y there

  reversed : (x y : X) → slice_cmp nat_cmp (name x) (name y) ≡ Greater → name_cmp name y x ≡ Less
  reversed x y more = nat_list_cmp_total.antisymm (name y) (name x) ∙ ap ordering_reverse more

  sorted_put : (x : X) (ys : List X) → AllByRecursion (λ y. bytes_eq (name x) (name y) ≡ false) ys → IsStrictlySortedBy (name_cmp name) ys → IsStrictlySortedBy (name_cmp name) (put_by name x ys)
  unfolding IsStrictlySortedBy
  sorted_put x [] other sorted = (tt, tt)
  sorted_put x (y ∷ ys) other sorted = by (slice_cmp nat_cmp (name x) (name y)) refl (is_eq-slice_cmp (name x) (name y) ∙ other.0) (sorted_put x ys other.1 sorted.1)
    where
      by : (o : Ordering) → slice_cmp nat_cmp (name x) (name y) ≡ o → is_eq o ≡ false → IsStrictlySortedBy (name_cmp name) (put_by name x ys) → IsStrictlySortedBy (name_cmp name) (match_ordering o (x ∷ y ∷ ys) (x ∷ y ∷ ys) (y ∷ put_by name x ys))
      by Less is differ rest = ((is, every-weaker (λ z. name_cmp name y z ≡ Less) (λ z. name_cmp name x z ≡ Less) (λ z below. nat_list_cmp_total.trans (name x) (name y) (name z) is below) ys sorted.0), sorted)
      by Equal is differ rest = absurd (let wrong : ⊥ = cc in wrong)
      by Greater is differ rest = (every_put name (λ z. name_cmp name y z ≡ Less) x ys (reversed x y is) sorted.0, rest)

  pub sorted_by_name : (xs : List X) → IsDistinct bytes_eq (map name xs) → IsStrictlySortedBy (name_cmp name) (by_name name xs)
  unfolding by_name IsDistinct IsStrictlySortedBy
  sorted_by_name [] apart = tt
  sorted_by_name (x ∷ xs) apart =
      sorted_put x (by_name name xs)
      (every_by_name name (λ y. bytes_eq (name x) (name y) ≡ false) xs (apart_names name (name x) xs apart.0))
      (sorted_by_name xs apart.1)
