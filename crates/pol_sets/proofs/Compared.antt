-- What `eq` of two iterators over numbers says, where each gives its list.
use Rattle.std.proofs.Common.{◌≡◌, ℕ, Bool, true, false, ◌&&◌, List, [], ◌∷◌, Option, None, Some, sym, ap, ◌∙◌}
use Rattle.std.specs.Prelude.{nat_eq, IfSome, MatchOption}
use Rattle.std.specs.Cmp.Lexicographic.{pointwise}
use Rattle.std.specs.Iterator.{ComparesItemsByEq, YieldsFirst, YieldsThen}
use Rattle.std.specs.List.{AllZip}

abbrev steps : List ℕ → Option ℕ → List ℕ → Type 0
steps = YieldsFirst (λ (left : List ℕ). left)

-- what the two answers say after which neither is asked any more
abbrev Ends : Bool → Option ℕ → Option ℕ → Type 0
Ends r o p = MatchOption o (MatchOption p (r ≡ true) (λ _. r ≡ false)) (λ x. (r ≡ false) × IfSome p (λ y. nat_eq x y ≡ false))

ended : (s t u v : List ℕ) (o p : Option ℕ) (r : Bool) → steps s o u → steps t p v → Ends r o p → r ≡ pointwise nat_eq s t
ended s t u v None None r ours theirs last = last ∙ sym (λ i. pointwise nat_eq (ours.0 i) (theirs.0 i))
ended s t u v None (Some y) r ours theirs last = last ∙ sym (λ i. pointwise nat_eq (ours.0 i) (theirs i))
ended s t u v (Some x) None r ours theirs last = last.0 ∙ sym (λ i. pointwise nat_eq (ours i) (theirs.0 i))
ended s t u v (Some x) (Some y) r ours theirs last =
    last.0 ∙ sym ((λ i. pointwise nat_eq (ours i) (theirs i)) ∙ ap (λ b. b && pointwise nat_eq u v) last.1)

compared : (s t xs ys u v : List ℕ) (o p : Option ℕ) (r : Bool) → YieldsThen steps s xs o u → YieldsThen steps t ys p v
    → AllZip (λ x y. nat_eq x y ≡ true) xs ys → Ends r o p → r ≡ pointwise nat_eq s t
compared s t [] [] u v o p r ours theirs zip last =
    ended ours.0 theirs.0 u v o p r ours.2 theirs.2 last ∙ sym (λ i. pointwise nat_eq (ours.1 i) (theirs.1 i))
compared s t [] (y ∷ ys) u v o p r ours theirs zip last = absurd zip
compared s t (x ∷ xs) [] u v o p r ours theirs zip last = absurd zip
compared s t (x ∷ xs) (y ∷ ys) u v o p r ours theirs zip last =
    compared ours.1.0 theirs.1.0 xs ys u v o p r (ours.0, ours.1.2, ours.2) (theirs.0, theirs.1.2, theirs.2) zip.1 last
    ∙ sym ((λ i. pointwise nat_eq (ours.1.1 i) (theirs.1.1 i)) ∙ ap (λ b. b && pointwise nat_eq ours.1.0 theirs.1.0) zip.0)

pub compared_is : (s t : List ℕ) (r : Bool) → ComparesItemsByEq steps (λ (from to : List ℕ). to ≡ from) steps s t nat_eq r → r ≡ pointwise nat_eq s t
compared_is s t r (it, xs, ys, o, p, u, v, is, ours, theirs, zip, last) =
    compared s it xs ys u v o p r ours theirs zip last ∙ ap (pointwise nat_eq s) is
