-- What each operation of a run keeps, the run keeps.
use Rattle.std.proofs.Common.{List, [], ◌∷◌}
use Rattle.std.specs.Prelude.{fold}
use Rattle.std.specs.List.{AllByRecursion}
use Rattle.pol_arena.specs.Runs.{EachInTurn}

module _ {S O : Type 0} (after : S → O → S) where
  pub kept_through : (P : S → O → Type 0) (Good : S → Type 0) → ((s : S) (o : O) → Good s → P s o → Good (after s o))
      → (s : S) (os : List O) → Good s → EachInTurn after P s os → Good (fold after s os)
  kept_through P Good step s [] good each = good
  kept_through P Good step s (o ∷ os) good each = kept_through P Good step (after s o) os (step s o good each.0) each.1

  pub both_in_turn : (P Q : S → O → Type 0) (s : S) (os : List O) → EachInTurn after P s os → EachInTurn after Q s os → EachInTurn after (λ s o. P s o × Q s o) s os
  both_in_turn P Q s [] first second = tt
  both_in_turn P Q s (o ∷ os) first second = ((first.0, second.0), both_in_turn P Q (after s o) os first.1 second.1)

  pub in_turn_from_every : (P : O → Type 0) (s : S) (os : List O) → AllByRecursion P os → EachInTurn after (λ _ o. P o) s os
  in_turn_from_every P s [] all = tt
  in_turn_from_every P s (o ∷ os) all = (all.0, in_turn_from_every P (after s o) os all.1)
