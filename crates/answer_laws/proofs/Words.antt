-- What is read by one of some words: what holds of each of them holds of the one that is found.
use Rattle.std.proofs.Common.{ℕ, Bool, true, false, cond, List, [], ◌∷◌, Option, None, Some, ok_or, option_and_then, Result, Err, bytes_eq}
use Rattle.std.specs.List.{AllByRecursion}
use Rattle.pol_script.specs.Forms.{word_among}
use Rattle.pol_script.specs.Steps.{◌>>=◌}

module _ {A M F : Type 0} (Holds : Result M F → Type 0) (P : A → Type 0) (then : A → Result M F) (none : F) (refused : Holds (Err none)) (each : (a : A) → P a → Holds (then a)) where
  chosen : (b : Bool) (a : A) (o : Option A) → P a → Holds (ok_or o none >>= then) → Holds (ok_or (cond b (Some a) o) none >>= then)
  chosen true a o own others = each a own
  chosen false a o own others = others

  word_holds : (words : List (List ℕ × A)) (said : List ℕ) → AllByRecursion (λ (word : List ℕ × A). P word.1) words → Holds (ok_or (word_among words said) none >>= then)
  word_holds [] said all = refused
  word_holds (word ∷ words) said all = chosen (bytes_eq said word.0) word.1 (word_among words said) all.0 (word_holds words said all.1)

  pub words_hold : (words : List (List ℕ × A)) (said : Option (List ℕ)) → AllByRecursion (λ (word : List ℕ × A). P word.1) words
      → Holds (ok_or (option_and_then (word_among words) said) none >>= then)
  words_hold words None all = refused
  words_hold words (Some said) all = word_holds words said all
