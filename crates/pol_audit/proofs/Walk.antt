-- Steps of the walk along the ports.
use Rattle.std.proofs.Common.{◌≡◌, ℕ, zero, suc, ◌+◌, ◌-◌, ◌<◌, ◌≤◌, Bool, true, false, cond, List, [], ◌∷◌, ◌++◌, drop, get_or, length, map, refl, sym, ap, ◌∙◌, append_assoc, arith}
use Rattle.std.proofs.lemmas.List.{get_or-map}
use Rattle.pol_mapkey.specs.declared.Word.{Word}
use Rattle.pol_audit.specs.declared.difference.Difference.{Difference}
use Rattle.pol_audit.specs.declared.group.Group.{Group}
use Rattle.pol_audit.specs.Ranges.{piece, ranges_from, same_words}

-- what is left begins with the element at the place
pub drop_next : {X : Type 0} (k : ℕ) (xs : List X) (d : X) → k < length xs → drop k xs ≡ get_or xs k d ∷ drop (k + 1) xs
drop_next k [] d below = absurd (omega arith)
drop_next zero (x ∷ xs) d below = refl
drop_next (suc k) (x ∷ xs) d below = drop_next k xs d (omega arith) ∙ ap (λ n. get_or xs k d ∷ drop n (x ∷ xs)) (let e : suc (k + 1) ≡ suc k + 1 = omega arith in e)

pub drop_none : {X : Type 0} (k : ℕ) (xs : List X) → length xs ≤ k → drop k xs ≡ []
drop_none k [] all = nothing k
  where
    nothing : {X : Type 0} (k : ℕ) → drop {A = X} k [] ≡ []
    nothing zero = refl
    nothing (suc k) = refl
drop_none zero (x ∷ xs) all = absurd (omega arith)
drop_none (suc k) (x ∷ xs) all = drop_none k xs (omega arith)

module _ (group : Group) (said : ℕ → Word × Word) where
  pub ranges_end : (first : ℕ) → ranges_from group said first [] ≡ piece group first 65535 (said first)
  unfolding ranges_from
  ranges_end first = refl

  chosen : (b : Bool) (first port : ℕ) (ports : List ℕ) → same_words (said first) (said port) ≡ b
      → ranges_from group said first (port ∷ ports) ≡ cond b (ranges_from group said first ports) (piece group first (port - 1) (said first) ++ ranges_from group said port ports)
  unfolding ranges_from
  chosen b first port ports is = ap (λ c. cond c (ranges_from group said first ports) (piece group first (port - 1) (said first) ++ ranges_from group said port ports)) is

  pub ranges_same : (first port : ℕ) (ports : List ℕ) → same_words (said first) (said port) ≡ true → ranges_from group said first (port ∷ ports) ≡ ranges_from group said first ports
  ranges_same first port ports is = chosen true first port ports is

  pub ranges_next : (first port : ℕ) (ports : List ℕ) → same_words (said first) (said port) ≡ false
      → ranges_from group said first (port ∷ ports) ≡ piece group first (port - 1) (said first) ++ ranges_from group said port ports
  ranges_next first port ports is = chosen false first port ports is

  -- a turn with the same words
  pub stays : (out all : List Difference) (first port k : ℕ) (ports : List ℕ) → out ++ ranges_from group said first (drop k ports) ≡ all → k < length ports
      → port ≡ get_or ports k 0 → same_words (said first) (said port) ≡ true → out ++ ranges_from group said first (drop (k + 1) ports) ≡ all
  stays out all first port k ports before below at is =
      ap (λ xs. out ++ xs) (sym (ranges_same first port (drop (k + 1) ports) is) ∙ ap (ranges_from group said first) (ap (λ p. p ∷ drop (k + 1) ports) at ∙ sym (drop_next k ports 0 below))) ∙ before

  -- a turn with other words
  pub turns : (old out all : List Difference) (first port k : ℕ) (ports : List ℕ) → old ++ ranges_from group said first (drop k ports) ≡ all → k < length ports
      → port ≡ get_or ports k 0 → same_words (said first) (said port) ≡ false → out ≡ old ++ piece group first (port - 1) (said first)
      → out ++ ranges_from group said port (drop (k + 1) ports) ≡ all
  turns old out all first port k ports before below at is made =
      ap (λ xs. xs ++ ranges_from group said port (drop (k + 1) ports)) made
      ∙ append_assoc old (piece group first (port - 1) (said first)) (ranges_from group said port (drop (k + 1) ports))
      ∙ ap (λ xs. old ++ xs) (sym (ranges_next first port (drop (k + 1) ports) is) ∙ ap (ranges_from group said first) (ap (λ p. p ∷ drop (k + 1) ports) at ∙ sym (drop_next k ports 0 below)))
      ∙ before

  -- the end
  pub ends : (old out all : List Difference) (first k : ℕ) (ports : List ℕ) → old ++ ranges_from group said first (drop k ports) ≡ all → length ports ≤ k
      → out ≡ old ++ piece group first 65535 (said first) → out ≡ all
  ends old out all first k ports before done made =
      made ∙ ap (λ xs. old ++ xs) (sym (ranges_end first) ∙ ap (ranges_from group said first) (sym (drop_none k ports done))) ∙ before

module _ (said : ℕ → Word × Word) (first port : ℕ) (a b : Word × Word) (is : Bool) where
  agreed : is ≡ same_words a b → a ≡ said first → b ≡ said port → is ≡ same_words (said first) (said port)
  agreed one two three = one ∙ (λ i. same_words (two i) (three i))

  pub not_same : is ≡ false → is ≡ same_words a b → a ≡ said first → b ≡ said port → same_words (said first) (said port) ≡ false
  not_same differ one two three = sym (agreed one two three) ∙ differ

  pub are_same : is ≡ true → is ≡ same_words a b → a ≡ said first → b ≡ said port → same_words (said first) (said port) ≡ true
  are_same same one two three = sym (agreed one two three) ∙ same

-- what two lists of words have at a place, where they are those of the ports
pub both_at : (said : ℕ → Word × Word) (ports : List ℕ) (left right : List Word) (i : ℕ) (v w : Word) → i < length ports
    → left ≡ map (λ port. (said port).0) ports → right ≡ map (λ port. (said port).1) ports → (get_or left i v, get_or right i w) ≡ said (get_or ports i 0)
both_at said ports left right i v w below lefts rights =
    let one = ap (λ ws. get_or ws i v) lefts ∙ get_or-map (λ port. (said port).0) ports i 0 v below in
    let two = ap (λ ws. get_or ws i w) rights ∙ get_or-map (λ port. (said port).1) ports i 0 w below in
    λ k. (one k, two k)
