-- Which numbers a list has that was made of options.
use Rattle.std.proofs.Common.{◌≡◌, ℕ, ◌==◌, ◌||◌, Bool, true, false, List, [], ◌∷◌, Option, None, Some, refl, ap, ◌∙◌}
use Rattle.std.specs.List.{cons_option, filter_map, list_any}
use Rattle.std.proofs.lemmas.Bool.{eqb-true, eq-eqb}
use Rattle.pol_set_changes.specs.Ids.{has}

-- whether it is this number
abbrev pub is_some_of : ℕ → Option ℕ → Bool
is_some_of number o = has number (cons_option o [])

pub has-cons_option : (number : ℕ) (o : Option ℕ) (others : List ℕ) → has number (cons_option o others) ≡ (is_some_of number o || has number others)
has-cons_option number None others = refl
has-cons_option number (Some one) others = by (one == number)
  where
    by : (b : Bool) → (b || has number others) ≡ ((b || false) || has number others)
    by true = refl
    by false = refl

pub has-filter_map : {X : Type 0} (f : X → Option ℕ) (number : ℕ) (xs : List X) → has number (filter_map f xs) ≡ list_any (λ x. is_some_of number (f x)) xs
has-filter_map f number [] = refl
has-filter_map f number (x ∷ xs) =
    has-cons_option number (f x) (filter_map f xs) ∙ ap (λ b. is_some_of number (f x) || b) (has-filter_map f number xs)

pub some_of-is : (number : ℕ) (o : Option ℕ) → is_some_of number o ≡ true → o ≡ Some number
some_of-is number None is = absurd cc
some_of-is number (Some one) is = by (one == number) refl is
  where
    by : (b : Bool) → (one == number) ≡ b → (b || false) ≡ true → Some one ≡ Some number
    by true same is = ap Some (eqb-true one number same)
    by false other is = absurd cc

pub is-some_of : (number : ℕ) (o : Option ℕ) → o ≡ Some number → is_some_of number o ≡ true
is-some_of number o is = ap (is_some_of number) is ∙ ap (λ b. b || false) (eq-eqb number number refl)
