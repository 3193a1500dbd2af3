-- How calls that add follow one another.
use Rattle.std.proofs.Common.{◌++◌, ℕ, List, [], ◌∷◌, ap, ◌∙◌, append_assoc, arith}
use Rattle.proof_forms.specs.Clauses.{Adds, AddsTwo}

pub twice : (old mid new : List ℕ) (one other : ℕ) → Adds old mid one → Adds mid new other → AddsTwo old new one other
twice old mid new one other first second = record {
  behind = second.behind ∙ ap (λ xs. xs ++ other ∷ []) first.behind ∙ append_assoc old (one ∷ []) (other ∷ []);
  two_more = omega (arith, first.one_more, second.one_more);
}
