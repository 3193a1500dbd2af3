-- Beginnings of one list.
use Rattle.std.proofs.Common.{◌≡◌, ◌≤◌, true, false, cond, nat_le, List, [], ◌∷◌, ◌++◌, length, refl, sym, ap, ◌∙◌, arith, inl, inr, append_assoc, append-nil, ◌⊎◌}
use Rattle.std.proofs.lemmas.Bool.{cases_Bool, leb-true, leb-false}
use Rattle.std.proofs.lemmas.List.{length-append, nil_from_length}
use mathlib.Core.List.{IsPrefix}
use Rattle.pol_hints.specs.declared.turn.Turn.{Turn}
use Rattle.pol_hints.specs.History.{longer, shorter}

pub begins_itself : (xs : List Turn) → IsPrefix xs xs
begins_itself xs = ([], append-nil xs)

pub begins_further : (xs ys zs : List Turn) → IsPrefix xs ys → IsPrefix ys zs → IsPrefix xs zs
begins_further xs ys zs one other = (one.0 ++ other.0, sym (append_assoc xs one.0 other.0) ∙ ap (λ l. l ++ other.0) one.1 ∙ other.1)

-- of two beginnings of one list the shorter begins the longer
pub begins_other : (xs ys zs : List Turn) → IsPrefix xs zs → IsPrefix ys zs → length xs ≤ length ys → IsPrefix xs ys
begins_other [] ys zs one other few = (ys, refl)
begins_other (x ∷ xs) [] zs one other few = absurd (omega (arith, few))
begins_other (x ∷ xs) (y ∷ ys) [] one other few = absurd (let wrong = ap length one.1 in omega (arith, wrong))
begins_other (x ∷ xs) (y ∷ ys) (z ∷ zs) one other few =
    let first = one.1 in
    let second = other.1 in
    let head : x ≡ y = cc in
    let rest = begins_other xs ys zs (one.0, (let tail : xs ++ one.0 ≡ zs = cc in tail)) (other.0, (let tail : ys ++ other.0 ≡ zs = cc in tail)) (omega (arith, few)) in
    (rest.0, λ i. head i ∷ rest.1 i)

-- two lists that begin each other are one
pub begins_both : (xs ys : List Turn) → IsPrefix xs ys → IsPrefix ys xs → xs ≡ ys
begins_both xs ys one other =
    let more = ap length one.1 in
    let back = ap length other.1 in
    let first = length-append xs one.0 in
    let second = length-append ys other.0 in
    let none : one.0 ≡ [] = nil_from_length one.0 (omega (arith, more, back, first, second)) in
    sym (append-nil xs) ∙ ap (λ l. xs ++ l) (sym none) ∙ one.1

module _ (xs ys zs : List Turn) (one : IsPrefix xs zs) (other : IsPrefix ys zs) where
  pub first_longer : IsPrefix xs (longer xs ys)
  first_longer =
      elim (cases_Bool (nat_le (length xs) (length ys))) [
        | inl few ↦ rw few (begins_other xs ys zs one other (leb-true (length xs) (length ys) few))
        | inr many ↦ rw many (begins_itself xs)
      ]

  pub second_longer : IsPrefix ys (longer xs ys)
  second_longer =
      elim (cases_Bool (nat_le (length xs) (length ys))) [
        | inl few ↦ rw few (begins_itself ys)
        | inr many ↦ rw many (begins_other ys xs zs other one (let less = leb-false (length xs) (length ys) many in omega (arith, less)))
      ]

  pub longer_begins : IsPrefix (longer xs ys) zs
  longer_begins = elim (nat_le (length xs) (length ys)) as (λ b. IsPrefix (cond b ys xs) zs) [ true ↦ other | false ↦ one ]

  -- the shorter begins the longer
  pub shorter_begins : IsPrefix (shorter xs ys) (longer xs ys)
  shorter_begins =
      elim (cases_Bool (nat_le (length xs) (length ys))) [
        | inl few ↦ rw few (begins_other xs ys zs one other (leb-true (length xs) (length ys) few))
        | inr many ↦ rw many (begins_other ys xs zs other one (let less = leb-false (length xs) (length ys) many in omega (arith, less)))
      ]

  -- where one of two is the whole list, so is the longer one
  pub longer_knows : (xs ≡ zs) ⊎ (ys ≡ zs) → longer xs ys ≡ zs
  longer_knows (inl is) = begins_both (longer xs ys) zs longer_begins (rw (sym is) first_longer)
  longer_knows (inr is) = begins_both (longer xs ys) zs longer_begins (rw (sym is) second_longer)

-- where the shorter begins the longer, each of the two does
pub each_begins : (xs ys : List Turn) → IsPrefix (shorter xs ys) (longer xs ys) → IsPrefix xs (longer xs ys) × IsPrefix ys (longer xs ys)
each_begins xs ys =
    elim (nat_le (length xs) (length ys)) as (λ b. IsPrefix (cond b xs ys) (cond b ys xs) → IsPrefix xs (cond b ys xs) × IsPrefix ys (cond b ys xs)) [
      | true ↦ λ it. (it, begins_itself ys)
      | false ↦ λ it. (begins_itself xs, it)
    ]
