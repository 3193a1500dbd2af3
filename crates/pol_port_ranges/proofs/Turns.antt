-- Turns of the loop along the ports.
use Rattle.std.proofs.Common.{◌≡◌, ℕ, zero, suc, ◌+◌, ◌-◌, ◌<◌, ◌≤◌, true, false, List, [], ◌∷◌, ◌++◌, drop, get_or, length, map, refl, sym, ap, ◌∙◌, append_assoc, arith, OnOk, Result, Ok, Err}
use Rattle.std.proofs.lemmas.List.{get_or-map}
use Rattle.pol_port_ranges.specs.declared.said.Range.{Range}
use Rattle.pol_port_ranges.specs.declared.said.PortSaid.{PortSaid}
use Rattle.pol_port_ranges.specs.Said.{same_said}
use Rattle.pol_port_ranges.specs.Ranges.{ranges}
use Rattle.pol_port_ranges.specs.Walk.{IsSteady, piece, walk}
use Rattle.pol_port_ranges.proofs.Front.{walk_next, walk_on, walk_same, walked}
use Rattle.pol_port_ranges.proofs.Same.{same_said-self}

pub on_ok : {T E : Type 0} (r : Result T E) (P Q : Type 0) → OnOk r P → (P → Q) → OnOk r Q
on_ok (Ok v) P Q p f = f p
on_ok (Err e) P Q p f = tt

drop_next : {X : Type 0} (k : ℕ) (xs : List X) (d : X) → k < length xs → drop k xs ≡ get_or xs k d ∷ drop (k + 1) xs
drop_next k [] d below = absurd (omega arith)
drop_next zero (x ∷ xs) d below = refl
drop_next (suc k) (x ∷ xs) d below = drop_next k xs d (omega arith) ∙ ap (λ n. get_or xs k d ∷ drop n (x ∷ xs)) (let e : suc (k + 1) ≡ suc k + 1 = omega arith in e)

drop_none : {X : Type 0} (k : ℕ) (xs : List X) → length xs ≤ k → drop k xs ≡ []
drop_none k [] all = nothing k
  where
    nothing : {X : Type 0} (k : ℕ) → drop {A = X} k [] ≡ []
    nothing zero = refl
    nothing (suc k) = refl
drop_none zero (x ∷ xs) all = absurd (omega arith)
drop_none (suc k) (x ∷ xs) all = drop_none k xs (omega arith)

-- what a list has at a place, where it is what is said of the ports
pub said_there : (f : ℕ → PortSaid) (ports : List ℕ) (words : List PortSaid) (i : ℕ) (d : PortSaid) → i < length ports → words ≡ map f ports → get_or words i d ≡ f (get_or ports i 0)
said_there f ports words i d below are = ap (λ ws. get_or ws i d) are ∙ get_or-map f ports i 0 d below

module _ (f : ℕ → PortSaid) where
  -- a turn of which the same is said
  pub stays : (out all : List Range) (first k : ℕ) (ports : List ℕ) → out ++ walk f first (drop k ports) ≡ all → k < length ports
      → same_said (f first) (f (get_or ports k 0)) ≡ true → out ++ walk f first (drop (k + 1) ports) ≡ all
  stays out all first k ports before below is =
      ap (λ xs. out ++ xs) (sym (walk_same f first (get_or ports k 0) (drop (k + 1) ports) is) ∙ ap (walk f first) (sym (drop_next k ports 0 below))) ∙ before

  -- a turn of which something else is said
  pub turns : (old out all : List Range) (first k : ℕ) (ports : List ℕ) → old ++ walk f first (drop k ports) ≡ all → k < length ports
      → same_said (f first) (f (get_or ports k 0)) ≡ false → out ≡ old ++ piece first (get_or ports k 0 - 1) (f first)
      → out ++ walk f (get_or ports k 0) (drop (k + 1) ports) ≡ all
  turns old out all first k ports before below is made =
      ap (λ xs. xs ++ walk f (get_or ports k 0) (drop (k + 1) ports)) made
      ∙ append_assoc old (piece first (get_or ports k 0 - 1) (f first)) (walk f (get_or ports k 0) (drop (k + 1) ports))
      ∙ ap (λ xs. old ++ xs) (sym (walk_next f first (get_or ports k 0) (drop (k + 1) ports) is) ∙ ap (walk f first) (sym (drop_next k ports 0 below)))
      ∙ before

  -- the end
  pub ends : (old out all : List Range) (first k : ℕ) (ports : List ℕ) → old ++ walk f first (drop k ports) ≡ all → length ports ≤ k
      → out ≡ old ++ piece first 65535 (f first) → out ≡ all
  ends old out all first k ports before done made =
      made ∙ ap (λ xs. old ++ xs) (sym (walk_on f first) ∙ ap (walk f first) (sym (drop_none k ports done))) ∙ before

-- from the first port on, where that is 0
pub all_walked : (f : ℕ → PortSaid) (ports rest : List ℕ) → ports ≡ 0 ∷ rest → IsSteady f 0 rest → walk f 0 ports ≡ ranges f
all_walked f ports rest is steady =
    ap (walk f 0) is ∙ walk_same f 0 0 rest (same_said-self (f 0))
    ∙ walked f 0 0 65536 rest (omega arith) (omega arith) (λ q low high. ap f (let e : q ≡ 0 = omega arith in e)) steady
