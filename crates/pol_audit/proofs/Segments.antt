-- The elements of one key in a list whose keys don't descend.
use Rattle.std.proofs.Common.{◌≡◌, ℕ, zero, suc, ◌+◌, ◌-◌, ◌<◌, ◌≤◌, ◌==◌, Bool, true, false, cond, count_by, get_or, nat_lt, filter, take, drop, length, List, [], ◌∷◌, refl, sym, ap, subst, ◌∙◌, inl, inr, arith}
use Rattle.std.specs.List.{AllByRecursion, Contains}
use Rattle.std.specs.List.Sorted.{IsNonDecreasingBy, IsPartitionPoint}
use Rattle.pol_data.proofs.Members.{Contains-filter}
use Rattle.pol_mapkey.specs.Entries.{Entry}
use Rattle.std.proofs.lemmas.Bool.{cases_order, eq-eqb, ne_eqb, lt-ltb, le-ltb}
use Rattle.std.proofs.lemmas.List.Elements.{recursion_from_All}
use Rattle.std.proofs.lemmas.List.Sorted.{IsNonDecreasingBy-drop}
use Rattle.pol_data.proofs.Counts.{count_by-cons}
use Rattle.pol_data.proofs.Every.{every-weaker}

module _ {X : Type 0} (key : X → ℕ) where
  abbrev Rises : List X → Type 0
  Rises [] = Unit {0}
  Rises (x ∷ xs) = AllByRecursion (λ y. key x ≤ key y) xs × Rises xs

  rises : (xs : List X) → IsNonDecreasingBy key xs → Rises xs
  rises [] up = tt
  rises (x ∷ xs) up = (recursion_from_All (λ y. key x ≤ key y) xs (λ k d below. up 0 (suc k) d (omega arith) (omega arith)), rises xs (IsNonDecreasingBy-drop key 1 (x ∷ xs) up))

  count_none : (n : ℕ) (xs : List X) → AllByRecursion (λ y. n ≤ key y) xs → count_by (λ y. nat_lt (key y) n) xs ≡ 0
  count_none n [] all = refl
  count_none n (x ∷ xs) all = count_by-cons (λ y. nat_lt (key y) n) x xs ∙ ap (λ b. cond b 1 0 + count_by (λ y. nat_lt (key y) n) xs) (le-ltb (key x) n all.0) ∙ (let rest = count_none n xs all.1 in let e : 0 + count_by (λ y. nat_lt (key y) n) xs ≡ 0 = omega (arith, rest) in e)

  filter_none : (n : ℕ) (xs : List X) → AllByRecursion (λ y. suc n ≤ key y) xs → filter (λ y. key y == n) xs ≡ []
  filter_none n [] all = refl
  filter_none n (x ∷ xs) all = rw (ne_eqb (key x) n (λ same. (let above = all.0 in let e : key x ≡ n = same in omega arith))) (filter_none n xs all.1)

  abbrev low : ℕ → List X → ℕ
  low n xs = count_by (λ y. nat_lt (key y) n) xs

  counted : (n : ℕ) (x : X) (xs : List X) (b : Bool) → nat_lt (key x) n ≡ b → low n (x ∷ xs) ≡ cond b 1 0 + low n xs
  counted n x xs b is = count_by-cons (λ y. nat_lt (key y) n) x xs ∙ ap (λ c. cond c 1 0 + low n xs) is

  taken : (i j : ℕ) (x : X) (xs : List X) → take (suc j - suc i) (drop (suc i) (x ∷ xs)) ≡ take (j - i) (drop i xs)
  taken i j x xs = ap (λ k. take k (drop i xs)) (let e : suc j - suc i ≡ j - i = omega arith in e)

  segmented : (n : ℕ) (xs : List X) → Rises xs → (low n xs ≤ low (n + 1) xs) × (take (low (n + 1) xs - low n xs) (drop (low n xs) xs) ≡ filter (λ y. key y == n) xs)
  segmented n [] up = (omega arith, refl)
  segmented n (x ∷ xs) up =
      let rest = segmented n xs up.1 in
      elim (cases_order (key x) n) [
        | inl same ↦
            let i0 : low n xs ≡ 0 = count_none n xs (every-weaker (λ y. key x ≤ key y) (λ y. n ≤ key y) (λ y le. omega arith) xs up.0) in
            let i : low n (x ∷ xs) ≡ 0 = counted n x xs false (le-ltb (key x) n (omega arith)) ∙ (let e : 0 + low n xs ≡ 0 = omega (arith, i0) in e) in
            let j : low (n + 1) (x ∷ xs) ≡ suc (low (n + 1) xs) = counted (n + 1) x xs true (lt-ltb (key x) (n + 1) (omega arith)) ∙ (let e : 1 + low (n + 1) xs ≡ suc (low (n + 1) xs) = omega arith in e) in
            let tail : take (low (n + 1) xs) xs ≡ filter (λ y. key y == n) xs = ap (λ k. take k xs) (let e : low (n + 1) xs ≡ low (n + 1) xs - 0 = omega arith in e) ∙ ap (λ k. take (low (n + 1) xs - k) (drop k xs)) (sym i0) ∙ rest.1 in (
              omega (arith, i, j),
              ap (λ k. take k (drop (low n (x ∷ xs)) (x ∷ xs))) (let e : low (n + 1) (x ∷ xs) - low n (x ∷ xs) ≡ suc (low (n + 1) xs) = omega (arith, i, j) in e)
                  ∙ ap (λ k. take (suc (low (n + 1) xs)) (drop k (x ∷ xs))) i
                  ∙ ap (λ ys. x ∷ ys) tail
                  ∙ sym (ap (λ b. cond b (x ∷ filter (λ y. key y == n) xs) (filter (λ y. key y == n) xs)) (eq-eqb (key x) n same)),
            )
        | inr order ↦ elim order [
          | inl below ↦
              let i : low n (x ∷ xs) ≡ suc (low n xs) = counted n x xs true (lt-ltb (key x) n below) ∙ (let e : 1 + low n xs ≡ suc (low n xs) = omega arith in e) in
              let j : low (n + 1) (x ∷ xs) ≡ suc (low (n + 1) xs) = counted (n + 1) x xs true (lt-ltb (key x) (n + 1) (omega arith)) ∙ (let e : 1 + low (n + 1) xs ≡ suc (low (n + 1) xs) = omega arith in e) in
              let le = rest.0 in (
                omega (arith, i, j, le),
                ap (λ k. take (low (n + 1) (x ∷ xs) - k) (drop k (x ∷ xs))) i
                    ∙ ap (λ k. take (k - suc (low n xs)) (drop (suc (low n xs)) (x ∷ xs))) j
                    ∙ taken (low n xs) (low (n + 1) xs) x xs
                    ∙ rest.1
                    ∙ sym (ap (λ b. cond b (x ∷ filter (λ y. key y == n) xs) (filter (λ y. key y == n) xs)) (ne_eqb (key x) n (λ same. (let e : key x ≡ n = same in omega arith)))),
              )
          | inr above ↦
              let i0 : low n (x ∷ xs) ≡ 0 = count_none n (x ∷ xs) (omega arith, every-weaker (λ y. key x ≤ key y) (λ y. n ≤ key y) (λ y le. omega arith) xs up.0) in
              let j0 : low (n + 1) (x ∷ xs) ≡ 0 = count_none (n + 1) (x ∷ xs) (omega arith, every-weaker (λ y. key x ≤ key y) (λ y. n + 1 ≤ key y) (λ y le. omega arith) xs up.0) in
              let none : filter (λ y. key y == n) (x ∷ xs) ≡ [] = filter_none n (x ∷ xs) (omega arith, every-weaker (λ y. key x ≤ key y) (λ y. suc n ≤ key y) (λ y le. omega arith) xs up.0) in (
                omega (arith, i0, j0),
                ap (λ k. take k (drop (low n (x ∷ xs)) (x ∷ xs))) (let e : low (n + 1) (x ∷ xs) - low n (x ∷ xs) ≡ 0 = omega (arith, i0, j0) in e) ∙ sym none,
              )
        ]
      ]

  pub segment_within : (n : ℕ) (xs : List X) → IsNonDecreasingBy key xs → low n xs ≤ low (n + 1) xs
  segment_within n xs up = (segmented n xs (rises xs up)).0

  pub segment_is : (n : ℕ) (xs : List X) → IsNonDecreasingBy key xs → take (low (n + 1) xs - low n xs) (drop (low n xs) xs) ≡ filter (λ y. key y == n) xs
  segment_is n xs up = (segmented n xs (rises xs up)).1

module _ {X : Type 0} (p : X → Bool) where
  count_nothing : (xs : List X) → ((k : ℕ) (d : X) → k < length xs → p (get_or xs k d) ≡ false) → count_by p xs ≡ 0
  count_nothing [] none = refl
  count_nothing (x ∷ xs) none = count_by-cons p x xs ∙ rw (none 0 x (omega arith)) (omega (arith, count_nothing xs (λ k d below. none (suc k) d (omega arith))))

  -- where the first so many pass and the rest fail, so many pass
  pub count_to_point : (xs : List X) (i : ℕ) → i ≤ length xs → IsPartitionPoint (λ x. p x ≡ true) (λ x. p x ≡ false) xs i → count_by p xs ≡ i
  count_to_point xs zero within point = count_nothing xs (λ k d below. point.1 k d (omega arith) below)
  count_to_point [] (suc i) within point = absurd (omega arith)
  count_to_point (x ∷ xs) (suc i) within point =
      count_by-cons p x xs
      ∙ rw (point.0 0 x (omega arith) (omega arith))
      (omega (arith, count_to_point xs i (omega arith) (λ k d low below. point.0 (suc k) d (omega arith) (omega arith), λ k d low below. point.1 (suc k) d (omega arith) (omega arith))))

-- an entry of that number is in the segment
pub in_segment : (id : ℕ) (xs part : List Entry) → part ≡ filter (λ (e : Entry). e.0.id == id) xs → (e : Entry) → Contains xs e → e.0.id ≡ id → Contains part e
in_segment id xs part is e there same = subst (λ ys. Contains ys e) (sym is) (Contains-filter (λ (f : Entry). f.0.id == id) xs e (eq-eqb e.0.id id same) there)
