-- Where a walk of an ascending list may stop.
use Rattle.std.proofs.Common.{◌≡◌, ◌≤◌, ℕ, Bool, true, false, cond, List, [], ◌∷◌, refl, ap, ◌∙◌, arith}
use Rattle.std.specs.List.{AllByRecursion}
use Rattle.std.proofs.lemmas.Bool.{ltb-true}
use Rattle.proof_forms.specs.Walks.{Ascends, below, is_below}

no_less : (limit number : ℕ) → limit ≤ number → is_below limit number ≡ false
no_less limit number le = by (is_below limit number) refl
  where
    by : (b : Bool) → is_below limit number ≡ b → b ≡ false
    by true is = absurd (omega (arith, ltb-true number limit is))
    by false is = refl

-- none of numbers that are no less than the limit is below it
pub none_below : (limit number : ℕ) (numbers : List ℕ) → limit ≤ number → AllByRecursion (λ later. number ≤ later) numbers → below limit numbers ≡ []
none_below limit number [] le all = refl
none_below limit number (later ∷ numbers) le all =
    ap (λ b. cond b (later ∷ below limit numbers) (below limit numbers)) (no_less limit later (let up : number ≤ later = all.0 in omega arith))
    ∙ none_below limit number numbers le all.1

-- the walk stops at a number that isn't below the limit
pub stops : (limit number : ℕ) (numbers rest : List ℕ) → rest ≡ number ∷ numbers → limit ≤ number → Ascends rest → below limit rest ≡ []
stops limit number numbers [] is le up = refl
stops limit number numbers (first ∷ rest) is le up =
    let same : number ≡ first = cc in
    ap (λ b. cond b (first ∷ below limit rest) (below limit rest)) (no_less limit first (omega arith)) ∙ none_below limit first rest (omega arith) up.0
