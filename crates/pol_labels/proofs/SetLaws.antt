-- What the definitions of label sets mean.
use Rattle.std.proofs.Common.{◌≡◌, ℕ, zero, suc, List, [], ◌∷◌, refl, ◌∙◌, ap, subst, arith, Bool, true, false, cond, ◌||◌}
use Rattle.std.specs.Prelude.{◌↔◌, Some, None}
use Rattle.std.specs.List.{Contains, list_any}
use Rattle.std.specs.Cmp.{first_so, second_so}
use Rattle.std.specs.Cmp.Lexicographic.{bytes_decides}
use Rattle.std.specs.Str.{bytes_eq}
use Rattle.std.proofs.lemmas.Bool.{and_from}
use Rattle.std.proofs.lemmas.List.{get_or_default}
use Rattle.std.proofs.lemmas.List.Folds.{Any-from_list_any}
use Rattle.pol_labels.specs.declared.label.Label.{Label}
use Rattle.pol_labels.specs.Order.{IsLabelSet, same_place, has_duplicate_key, in_order, label_set_of, ShareKeyAt}
use Rattle.pol_data.proofs.Members.{In-from_Contains, Contains-from_In}
use Rattle.pol_data.proofs.Ascending.{same_members}
use Rattle.pol_labels.proofs.Places.{place_order-total, IsLabelSet-in_order, has_duplicate_key-at, in_in_order, in_order-in}

-- two sets with the same labels are equal
pub IsLabelSet-members : (a b : List Label) → IsLabelSet a → IsLabelSet b → ((label : Label) → Contains a label ↔ Contains b label) → a ≡ b
IsLabelSet-members a b set_a set_b same =
    same_members place_order-total a b set_a set_b
    (λ label there. In-from_Contains b label ((same label).0 (Contains-from_In a label there)))
    (λ label there. In-from_Contains a label ((same label).1 (Contains-from_In b label there)))

-- the set of some labels is a set of these
pub label_set_of-made : (labels set : List Label) → label_set_of labels ≡ Some set → IsLabelSet set × ((label : Label) → Contains set label ↔ Contains labels label)
label_set_of-made labels set is =
    elim (has_duplicate_key labels) as (λ b. has_duplicate_key labels ≡ b → cond b None (Some (in_order labels)) ≡ Some set → IsLabelSet set × ((label : Label) → Contains set label ↔ Contains labels label)) [
      | true ↦ λ _ same. absurd cc
      | false ↦ λ none same.
          let made : in_order labels ≡ set = cc in
          subst (λ made. IsLabelSet made × ((label : Label) → Contains made label ↔ Contains labels label)) made (
            IsLabelSet-in_order labels none,
            λ label. (
              λ there. Contains-from_In labels label (in_in_order label labels (In-from_Contains (in_order labels) label there)),
              λ there. Contains-from_In (in_order labels) label (in_order-in label labels (In-from_Contains labels label there)),
            ),
          )
    ] refl is

-- there is none exactly where two labels share source and key
pub label_set_of-none : (labels : List Label) → (label_set_of labels ≡ None) ↔ (has_duplicate_key labels ≡ true)
label_set_of-none labels = (by_cases (has_duplicate_key labels), λ is. ap (λ b. cond b None (Some (in_order labels))) is)
  where
    by_cases : (b : Bool) → cond b None (Some (in_order labels)) ≡ None → b ≡ true
    by_cases true is = refl
    by_cases false is = absurd cc

pub same_place-parts : (a b : Label) → (same_place a b ≡ true) ↔ ((a.source ≡ b.source) × (a.key ≡ b.key))
same_place-parts a b = (
  λ same. (
    (bytes_decides a.source b.source).0 (first_so _ (bytes_eq a.key b.key) same),
    (bytes_decides a.key b.key).0 (second_so (bytes_eq a.source b.source) _ same),
  ),
  λ same. and_from _ _ ((bytes_decides a.source b.source).1 same.0) ((bytes_decides a.key b.key).1 same.1),
)

-- two labels share source and key exactly where two places of the list have such labels
pub has_duplicate_key-places : (labels : List Label) → (has_duplicate_key labels ≡ true) ↔ ((i : ℕ) × (j : ℕ) × ShareKeyAt labels i j)
has_duplicate_key-places labels = (places labels, λ found. back labels found.0 found.1 found.2)
  where
    places : (labels : List Label) → has_duplicate_key labels ≡ true → (i : ℕ) × (j : ℕ) × ShareKeyAt labels i j
    places [] some = cc
    places (x ∷ xs) some =
        elim (list_any (same_place x) xs) as (λ b. list_any (same_place x) xs ≡ b → (b || has_duplicate_key xs) ≡ true → (i : ℕ) × (j : ℕ) × ShareKeyAt (x ∷ xs) i j) [
          | true ↦ λ here _.
              let (k, y, below, at, shared) = Any-from_list_any (same_place x) xs here in (
                zero,
                suc k,
                record { ordered = omega arith; below = omega arith; same = λ d. ap (same_place x) (get_or_default xs k d y below ∙ at) ∙ shared },
              )
          | false ↦ λ _ later.
              let found = places xs later in
              let shared = found.2 in
              let ordered = shared.ordered in
              let below = shared.below in
              (suc found.0, suc found.1, record { ordered = omega (arith, ordered); below = omega (arith, below); same = shared.same })
        ] refl some

    back : (labels : List Label) (i j : ℕ) → ShareKeyAt labels i j → has_duplicate_key labels ≡ true
    back [] i j shared = let below = shared.below in absurd (omega (arith, below))
    back (x ∷ xs) i j shared = has_duplicate_key-at (x ∷ xs) i j x shared.ordered shared.below (shared.same x)
