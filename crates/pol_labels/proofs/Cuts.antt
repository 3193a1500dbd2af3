-- A text cut at its first element that passes a test.
use Rattle.std.proofs.Common.{◌≡◌, suc, ◌+◌, List, [], ◌∷◌, ◌++◌, length, take, drop, refl, sym, ◌∙◌, ap, arith, Bool, true, false, cond, not, ◌||◌, ◌&&◌}
use Rattle.std.specs.List.{list_any, list_all, position_or_len, before_first, after_first}
use Rattle.std.specs.Cmp.{first_so, second_so}
use Rattle.std.proofs.lemmas.Bool.{not-true, or_right}

-- no element passes where the first place that does is the end
pub list_any-none : {X : Type 0} (p : X → Bool) (xs : List X) → position_or_len p xs ≡ length xs → list_any p xs ≡ false
list_any-none p [] at_end = refl
list_any-none p (x ∷ xs) at_end =
    elim (p x) as (λ b. cond (not b) (1 + position_or_len p xs) 0 ≡ length (x ∷ xs) → (b || list_any p xs) ≡ false) [
      | true ↦ λ end. absurd (omega (arith, end))
      | false ↦ λ end. list_any-none p xs (omega (arith, end))
    ] at_end

module _ {X : Type 0} (p : X → Bool) where
  before-hit : (x : X) (xs : List X) → p x ≡ true → before_first p (x ∷ xs) ≡ []
  before-hit x xs hit = ap (λ b. take (cond (not b) (1 + position_or_len p xs) 0) (x ∷ xs)) hit

  after-hit : (x : X) (xs : List X) → p x ≡ true → after_first p (x ∷ xs) ≡ xs
  after-hit x xs hit = ap (λ b. drop (cond (not b) (1 + position_or_len p xs) 0 + 1) (x ∷ xs)) hit

  before-miss : (x : X) (xs : List X) → p x ≡ false → before_first p (x ∷ xs) ≡ x ∷ before_first p xs
  before-miss x xs miss =
      let next : 1 + position_or_len p xs ≡ suc (position_or_len p xs) = omega arith in
      ap (λ b. take (cond (not b) (1 + position_or_len p xs) 0) (x ∷ xs)) miss ∙ ap (λ n. take n (x ∷ xs)) next

  after-miss : (x : X) (xs : List X) → p x ≡ false → after_first p (x ∷ xs) ≡ after_first p xs
  after-miss x xs miss =
      let next : (1 + position_or_len p xs) + 1 ≡ suc (position_or_len p xs + 1) = omega arith in
      ap (λ b. drop (cond (not b) (1 + position_or_len p xs) 0 + 1) (x ∷ xs)) miss ∙ ap (λ n. drop n (x ∷ xs)) next

  -- none of the elements passes
  abbrev pub none_pass : List X → Bool
  none_pass xs = list_all (λ x. not (p x)) xs

  miss_first : (x : X) (xs : List X) → none_pass (x ∷ xs) ≡ true → p x ≡ false
  miss_first x xs none = not-true (p x) (first_so (not (p x)) (none_pass xs) none)

  miss_rest : (x : X) (xs : List X) → none_pass (x ∷ xs) ≡ true → none_pass xs ≡ true
  miss_rest x xs none = second_so (not (p x)) (none_pass xs) none

  pub before_first-cut : (xs : List X) (y : X) (ys : List X) → none_pass xs ≡ true → p y ≡ true → before_first p (xs ++ y ∷ ys) ≡ xs
  before_first-cut [] y ys none hit = before-hit y ys hit
  before_first-cut (x ∷ xs) y ys none hit =
      before-miss x (xs ++ y ∷ ys) (miss_first x xs none) ∙ ap (λ zs. x ∷ zs) (before_first-cut xs y ys (miss_rest x xs none) hit)

  pub after_first-cut : (xs : List X) (y : X) (ys : List X) → none_pass xs ≡ true → p y ≡ true → after_first p (xs ++ y ∷ ys) ≡ ys
  after_first-cut [] y ys none hit = after-hit y ys hit
  after_first-cut (x ∷ xs) y ys none hit =
      after-miss x (xs ++ y ∷ ys) (miss_first x xs none) ∙ after_first-cut xs y ys (miss_rest x xs none) hit

  pub list_any-cut : (xs : List X) (y : X) (ys : List X) → p y ≡ true → list_any p (xs ++ y ∷ ys) ≡ true
  list_any-cut [] y ys hit = ap (λ b. b || list_any p ys) hit
  list_any-cut (x ∷ xs) y ys hit = ap (λ b. p x || b) (list_any-cut xs y ys hit) ∙ or_right (p x) true refl

  pub before_first-none : (xs : List X) → none_pass xs ≡ true → before_first p xs ≡ xs
  before_first-none [] none = refl
  before_first-none (x ∷ xs) none =
      before-miss x xs (miss_first x xs none) ∙ ap (λ zs. x ∷ zs) (before_first-none xs (miss_rest x xs none))

  pub after_first-none : (xs : List X) → none_pass xs ≡ true → after_first p xs ≡ []
  after_first-none [] none = refl
  after_first-none (x ∷ xs) none = after-miss x xs (miss_first x xs none) ∙ after_first-none xs (miss_rest x xs none)

  pub list_any-none_pass : (xs : List X) → none_pass xs ≡ true → list_any p xs ≡ false
  list_any-none_pass [] none = refl
  list_any-none_pass (x ∷ xs) none =
      ap (λ b. b || list_any p xs) (miss_first x xs none) ∙ list_any-none_pass xs (miss_rest x xs none)

  pub none_pass-from_list_any : (xs : List X) → list_any p xs ≡ false → none_pass xs ≡ true
  none_pass-from_list_any [] none = refl
  none_pass-from_list_any (x ∷ xs) none =
      elim (p x) as (λ b. (b || list_any p xs) ≡ false → (not b && none_pass xs) ≡ true) [
        | true ↦ λ none. sym none
        | false ↦ λ none. none_pass-from_list_any xs none
      ] none

  -- nothing before the first that passes does
  pub none_pass-before_first : (xs : List X) → none_pass (before_first p xs) ≡ true
  none_pass-before_first [] = refl
  none_pass-before_first (x ∷ xs) =
      elim (p x) as (λ b. p x ≡ b → none_pass (before_first p (x ∷ xs)) ≡ true) [
        | true ↦ λ hit. ap none_pass (before-hit x xs hit)
        | false ↦ λ miss. ap none_pass (before-miss x xs miss) ∙ (ap (λ b. not b && none_pass (before_first p xs)) miss ∙ none_pass-before_first xs)
      ] refl

  -- a list with an element that passes is what stands before the first, that one, and what stands after it
  pub cut_at_first : (xs : List X) → list_any p xs ≡ true → (y : X) × (p y ≡ true) × (xs ≡ before_first p xs ++ y ∷ after_first p xs)
  cut_at_first [] some = cc
  cut_at_first (x ∷ xs) some =
      elim (p x) as (λ b. p x ≡ b → (b || list_any p xs) ≡ true → (y : X) × (p y ≡ true) × (x ∷ xs ≡ before_first p (x ∷ xs) ++ y ∷ after_first p (x ∷ xs))) [
        | true ↦ λ hit _. (x, hit, sym (λ i. before-hit x xs hit i ++ x ∷ after-hit x xs hit i))
        | false ↦ λ miss later.
            let rest = cut_at_first xs later in
            (rest.0, rest.1, ap (λ zs. x ∷ zs) rest.2 ∙ sym (λ i. before-miss x xs miss i ++ rest.0 ∷ after-miss x xs miss i))
      ] refl some
