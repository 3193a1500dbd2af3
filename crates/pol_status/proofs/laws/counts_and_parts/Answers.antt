use Rattle.std.proofs.Common.{◌≡◌, ℕ, zero, suc, ◌+◌, ◌<◌, List, [], ◌∷◌, length, take, slice_index, Some, refl, ap, ◌∙◌, arith, length-append}
use Rattle.std.specs.Io.KnownBytes.{Appends, Consumes}
use Rattle.pol_streams.specs.Faults.{Rose}
use Rattle.pol_status.proofs.laws.counts_and_parts.Goals as goal

stands : Rose 1 1 → ⊥
stands rose = let less : 1 < 1 = rose (λ end. omega (arith, end)) in omega (arith, less)

falls : Rose 2 1 → ⊥
falls rose = let less : 2 < 1 = rose (λ end. omega (arith, end)) in omega (arith, less)

not_all : (count : ℕ) → count < 1 → Appends (Some []) (Some (2 ∷ [])) (take count (2 ∷ [])) → ⊥
not_all zero below is = let lengths = ap (λ (bytes : List ℕ). length bytes) is in omega (arith, lengths)
not_all (suc count) below is = omega (arith, below)

other_bytes : (count : ℕ) → count < 2 → Appends (Some []) (Some (3 ∷ [])) (take count (2 ∷ 3 ∷ [])) → ⊥
other_bytes zero below is = let lengths = ap (λ (bytes : List ℕ). length bytes) is in omega (arith, lengths)
other_bytes (suc zero) below is = let firsts : 3 ≡ 2 = ap (λ (bytes : List ℕ). slice_index bytes 0) is in omega (arith, firsts)
other_bytes (suc (suc count)) below is = omega (arith, below)

from_the_back : (taken : List ℕ) → Consumes (Some (1 ∷ 2 ∷ [])) (Some (1 ∷ [])) taken → ⊥
from_the_back [] is = let lengths = ap (λ (bytes : List ℕ). length bytes) is in omega (arith, lengths)
from_the_back (x ∷ []) is = let seconds : 2 ≡ 1 = ap (λ (bytes : List ℕ). slice_index bytes 1) is in omega (arith, seconds)
from_the_back (x ∷ y ∷ taken) is = let lengths : 2 ≡ suc (suc (length taken + 1)) = ap (λ (bytes : List ℕ). length bytes) is ∙ ap (λ (n : ℕ). suc (suc n)) (length-append taken (1 ∷ [])) in omega (arith, lengths)

pub returns : goal.returns
returns c = record {
  rises = λ _. omega arith;
  stands = stands;
  falls = falls;
  not_risen = stands;
  part = record { count = 1; not_all = omega arith; appended = refl };
  all = λ it. not_all it.count it.not_all it.appended;
  other_bytes = λ it. other_bytes it.count it.not_all it.appended;
  from_the_front = record { taken = 1 ∷ []; consumed = refl };
  from_the_back = λ it. from_the_back it.taken it.consumed;
}
