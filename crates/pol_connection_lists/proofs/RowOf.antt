-- The rows of identities, number by number.
use Rattle.std.proofs.Common.{◌≡◌, ℕ, ◌+◌, ◌==◌, ◌<◌, true, List, [], ◌∷◌, ◌++◌, filter, get_or, length, map, take, Option, None, Some, option_map, refl, sym, ap, subst, ◌∙◌}
use Rattle.std.specs.Option.{option_and_then}
use Rattle.std.proofs.lemmas.Bool.{eq-eqb, eqb-true}
use Rattle.std.proofs.lemmas.List.{get_or-map, length-map, take_more}
use Rattle.std.proofs.lemmas.Option.{same_Some}
use Rattle.pol_addr.specs.declared.network.Prefix.{Prefix}
use Rattle.pol_data.proofs.Members.{Contains-from_In, In, In-get_or}
use Rattle.pol_labels.specs.declared.label.Label.{Label}
use Rattle.pol_model.specs.declared.row.IdentityRow.{IdentityRow}
use Rattle.pol_model_laws.specs.Holding.{has_row, row_of}
use Rattle.pol_model_laws.specs.Keeps.{KeepsRows}
use Rattle.pol_model_laws.proofs.FoundRows.{found-number}
use Rattle.pol_model_laws.proofs.Membership.{find-In, found-some, list_any-In}
use Rattle.pol_headings.specs.declared.heading.Heading.TheVariants as heading
use Rattle.pol_headings.specs.Stands.{stands_under}

-- each row stands under the heading of all
pub all_stand : (rows : List IdentityRow) → filter (stands_under heading.Any) rows ≡ rows
all_stand [] = refl
all_stand (row ∷ rows) = ap (λ xs. row ∷ xs) (all_stand rows)

-- a number that has a row has one that is found
pub some_row : (number : ℕ) (rows : List IdentityRow) → has_row number rows ≡ true → (row : IdentityRow) × (row_of number rows ≡ Some row)
some_row number rows has = found-some (λ (row : IdentityRow). row.number == number) rows has

pub not_none : {X : Type 0} (number : ℕ) (rows : List IdentityRow) (f : IdentityRow → X) → has_row number rows ≡ true → option_map f (row_of number rows) ≡ None → ⊥
not_none number rows f has none =
    let one = some_row number rows has in
    let wrong : Some (f one.0) ≡ None = sym (ap (option_map f) one.1) ∙ none in
    cc

pub row_made : (number : ℕ) (rows : List IdentityRow) (labels : List Label) (prefix : Option Prefix) (holders : ℕ) → has_row number rows ≡ true
    → option_map (λ row. row.labels) (row_of number rows) ≡ Some labels → prefix ≡ option_and_then (λ row. row.prefix) (row_of number rows)
    → option_map (λ row. row.holders) (row_of number rows) ≡ Some holders
    → row_of number rows ≡ Some (record { number = number; labels = labels; prefix = prefix; holders = holders })
row_made number rows labels prefix holders has own around count =
    let one = some_row number rows has in
    let row : IdentityRow = one.0 in
    let n : row.number ≡ number = eqb-true row.number number (find-In (λ (r : IdentityRow). r.number == number) row rows one.1).1 in
    let l : row.labels ≡ labels = same_Some row.labels labels (sym (ap (option_map (λ (r : IdentityRow). r.labels)) one.1) ∙ own) in
    let p : row.prefix ≡ prefix = sym (around ∙ ap (option_and_then (λ (r : IdentityRow). r.prefix)) one.1) in
    let h : row.holders ≡ holders = same_Some row.holders holders (sym (ap (option_map (λ (r : IdentityRow). r.holders)) one.1) ∙ count) in
    one.1 ∙ (λ i. Some (record { number = n i; labels = l i; prefix = p i; holders = h i }))

-- any row
abbrev some : IdentityRow
some = record { number = 0; labels = []; prefix = None; holders = 0 }

-- the number n at place i of all numbers
module _ (rows : List IdentityRow) (keeps : KeepsRows rows) (numbers : List ℕ) (are : numbers ≡ map (λ row. row.number) rows) (i : ℕ) (within : i < length numbers) (n : ℕ) (is : n ≡ get_or numbers i n) where
  abbrev here : IdentityRow
  here = get_or rows i some

  low : i < length rows
  low = let e = ap length are ∙ length-map rows (λ (row : IdentityRow). row.number) in subst (λ n. i < n) e within

  there : In here rows
  there = In-get_or rows i some low

  number_is : n ≡ here.number
  number_is = is ∙ ap (λ ns. get_or ns i n) are ∙ get_or-map (λ (row : IdentityRow). row.number) rows i some n low

  pub has_one : has_row n rows ≡ true
  has_one = ap (λ m. has_row m rows) number_is ∙ list_any-In (λ (row : IdentityRow). row.number == here.number) here rows there (eq-eqb here.number here.number refl)

  pub next_row : (out new : List IdentityRow) (row : IdentityRow) → out ≡ take i rows → row_of n rows ≡ Some row → new ≡ out ++ row ∷ [] → new ≡ take (i + 1) rows
  next_row out new row so_far found made =
      let same : here ≡ row = same_Some here row (sym (found-number rows keeps here (Contains-from_In rows here there)) ∙ sym (ap (λ m. row_of m rows) number_is) ∙ found) in
      made ∙ (λ j. so_far j ++ sym same j ∷ []) ∙ sym (take_more rows i some low)
