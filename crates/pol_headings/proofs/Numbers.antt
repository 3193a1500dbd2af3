-- The numbers under one heading, which a set of the kit keeps in order.
use Rattle.std.proofs.Common.{◌≡◌, ◌==◌, ◌<◌, ◌&&◌, ◌||◌, not, Bool, true, false, cond, List, [], ◌∷◌, ℕ, length, nat_lt, refl, sym, ◌∙◌, inl, inr, ne_eqb, arith}
use Rattle.std.specs.Cmp.{unsigned_tied}
use Rattle.std.specs.BTreeMap.{is_at}
use Rattle.std.specs.List.{AllByRecursion, list_any}
use Rattle.std.specs.List.Sorted.{IsStrictlySortedBy}
use Rattle.std.specs.Ordering.{nat_cmp}
use Rattle.std.specs.declared.cmp.Ordering.TheVariants.{Less, Equal, Greater}
use Rattle.std.proofs.lemmas.Bool.{both_ways, cases_eq, eq-eqb, ltb-true, or_left}
use Rattle.pol_headings.specs.Filed.{has}
use Rattle.pol_model.specs.Ascending.{Ascends}

same_way : (x y : ℕ) → (x == y) ≡ (y == x)
same_way x y =
    elim (cases_eq x y) [
      | inl same ↦ eq-eqb x y same ∙ sym (eq-eqb y x (sym same))
      | inr other ↦ ne_eqb x y other ∙ sym (ne_eqb y x (λ same. other (sym same)))
    ]

pub has-contains : (n : ℕ) (numbers : List ℕ) → has n numbers ≡ list_any (is_at (nat_cmp n)) numbers
has-contains n [] = refl
has-contains n (own ∷ numbers) = λ i. (same_way own n ∙ sym (unsigned_tied n own)) i || has-contains n numbers i

-- what is written at one number
pub written : (there : Bool) (number : ℕ) (old new : List ℕ) → ((q : ℕ) → list_any (is_at (nat_cmp q)) new ≡ cond (is_at (nat_cmp number) q) there (list_any (is_at (nat_cmp q)) old)) → (n : ℕ) → has n new ≡ cond (number == n) there (has n old)
written there number old new changes n =
    has-contains n new ∙ changes n ∙ (λ i. cond (unsigned_tied number n i) there (sym (has-contains n old) i))

pub put-there : (at there : Bool) → cond at true there ≡ (there || at)
put-there true true = refl
put-there true false = refl
put-there false true = refl
put-there false false = refl

pub taken-out : (at there : Bool) → cond at false there ≡ (there && not at)
taken-out true true = refl
taken-out true false = refl
taken-out false true = refl
taken-out false false = refl

pub has-none : (n : ℕ) (numbers : List ℕ) → length numbers ≡ 0 → has n numbers ≡ false
has-none n [] none = refl
has-none n (own ∷ numbers) none = absurd (omega arith)

pub none-has : (numbers : List ℕ) → ((n : ℕ) → has n numbers ≡ false) → length numbers ≡ 0
none-has [] none = refl
none-has (own ∷ numbers) none = absurd (both_ways (has own (own ∷ numbers)) (none own) (or_left (own == own) (has own numbers) (eq-eqb own own refl)))

-- ---- their order
less_is : (x y : ℕ) → nat_cmp x y ≡ Less → x < y
less_is x y less = by (nat_lt x y) refl (x == y) less
  where
    by : (b : Bool) → nat_lt x y ≡ b → (e : Bool) → cond b Less (cond e Equal Greater) ≡ Less → x < y
    by true is e less = ltb-true x y is
    by false is true less = absurd (let wrong : ⊥ = cc in wrong)
    by false is false less = absurd (let wrong : ⊥ = cc in wrong)

all_less : (x : ℕ) (ys : List ℕ) → AllByRecursion (λ y. nat_cmp x y ≡ Less) ys → AllByRecursion (λ y. x < y) ys
all_less x [] all = tt
all_less x (y ∷ ys) all = (less_is x y all.0, all_less x ys all.1)

pub ascends : (numbers : List ℕ) → IsStrictlySortedBy nat_cmp numbers → Ascends numbers
unfolding IsStrictlySortedBy
ascends [] sorted = tt
ascends (x ∷ xs) sorted = (all_less x xs sorted.0, ascends xs sorted.1)
