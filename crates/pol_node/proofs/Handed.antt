-- The last of the passes that were handed out is one of them.
use Rattle.std.proofs.Common.{◌≡◌, ℕ, true, List, [], ◌∷◌, ◌++◌, map, ap, ◌∙◌, sym, subst, arith}
use Rattle.pol_history.specs.Grows.{PassState}
use Rattle.pol_history.specs.Meet.{has}

has-first : (first : ℕ) (others : List ℕ) → has (first ∷ others) first ≡ true
has-first first others = grind arith

has-later : (first : ℕ) (others : List ℕ) (pass : ℕ) → has others pass ≡ true → has (first ∷ others) pass ≡ true
has-later first others pass there = grind (arith, there)

has-last : (passes : List PassState) (pass : PassState) → has (map (λ (p : PassState). p.number) (passes ++ pass ∷ [])) pass.number ≡ true
has-last [] pass = has-first pass.number []
has-last (first ∷ passes) pass = has-later first.number (map (λ (p : PassState). p.number) (passes ++ pass ∷ [])) pass.number (has-last passes pass)

pub last_handed_out : (numbers : List ℕ) (all passes : List PassState) (pass : PassState) → map (λ (p : PassState). p.number) all ≡ numbers → all ≡ passes ++ pass ∷ []
    → has numbers pass.number ≡ true
last_handed_out numbers all passes pass those is =
    subst (λ (ns : List ℕ). has ns pass.number ≡ true) (ap (λ (ps : List PassState). map (λ (p : PassState). p.number) ps) (sym is) ∙ those) (has-last passes pass)
