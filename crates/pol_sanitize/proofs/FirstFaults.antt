-- The first of some faults is one of them, and none comes before it.
use Rattle.std.proofs.Common.{◌≡◌, ℕ, zero, suc, ◌+◌, ◌<◌, ◌≤◌, Bool, false, ◌&&◌, ◌==◌, ltb, List, [], ◌∷◌, Option, Some, None, ◌⊎◌, inl, inr, refl, sym, ap, subst, arith, ne_eqb}
use Rattle.std.proofs.lemmas.Bool.{and_right, le-ltb, or_from, and_left}
use Rattle.std.proofs.lemmas.Option.{none-some, same_Some}
use Rattle.std.specs.List.{slice_get}
use Rattle.std.specs.Option.{option_or}
use Rattle.pol_rule.specs.declared.fault.RuleFault.{RuleFault}
use Rattle.pol_sanitize.specs.Faults.{first_from}
use Rattle.pol_sanitize.specs.Order.{comes_before, entry_rank, is_before, place_rank}

-- ---- the order
later : (m n : ℕ) (rest : Bool) → n < m → is_before m n rest ≡ false
later m n rest more = or_from (ltb m n) (m == n && rest) (le-ltb m n (omega arith)) (and_left (m == n) rest (ne_eqb m n (λ same. omega arith)))

level : (m n : ℕ) (rest : Bool) → m ≡ n → rest ≡ false → is_before m n rest ≡ false
level m n rest same none = or_from (ltb m n) (m == n && rest) (le-ltb m n (omega arith)) (and_right (m == n) rest none)

pub later_rule : (f g : RuleFault) → f.rule < g.rule → comes_before g f ≡ false
later_rule f g more = later g.rule f.rule _ more

pub later_place : (f g : RuleFault) → f.rule ≡ g.rule → place_rank f.at < place_rank g.at → comes_before g f ≡ false
later_place f g rule more = level g.rule f.rule _ (sym rule) (later (place_rank g.at) (place_rank f.at) _ more)

pub later_entry : (f g : RuleFault) → f.rule ≡ g.rule → place_rank f.at ≡ place_rank g.at → entry_rank f.at < entry_rank g.at → comes_before g f ≡ false
later_entry f g rule place more =
    level g.rule f.rule _ (sym rule) (level (place_rank g.at) (place_rank f.at) _ (sym place) (later (entry_rank g.at) (entry_rank f.at) _ more))

pub later_number : (f g : RuleFault) → f.rule ≡ g.rule → f.at ≡ g.at → f.number ≤ g.number → comes_before g f ≡ false
later_number f g rule at within =
    level g.rule f.rule _ (sym rule)
    (level (place_rank g.at) (place_rank f.at) _ (ap place_rank (sym at))
    (level (entry_rank g.at) (entry_rank f.at) _ (ap entry_rank (sym at)) (le-ltb g.number f.number within)))

-- ---- the best of some faults: one of them, that none of them comes before
abbrev pub Best : Option RuleFault → (RuleFault → Type 0) → Type 0
Best None H = (f : RuleFault) → ¬ (H f)
Best (Some g) H = H g × ((f : RuleFault) → H f → comes_before f g ≡ false)

pub best_or : (o p : Option RuleFault) (H K : RuleFault → Type 0) → Best o H → Best p K → ((f g : RuleFault) → H f → K g → comes_before g f ≡ false) → Best (option_or o p) (λ f. H f ⊎ K f)
best_or None None H K none none' order = λ f here. elim here [ inl h ↦ none f h | inr k ↦ none' f k ]
best_or None (Some g) H K none (one, first) order = (inr one, λ f here. elim here [ inl h ↦ absurd (none f h) | inr k ↦ first f k ])
best_or (Some g) p H K (one, first) rest order = (inl one, λ f here. elim here [ inl h ↦ first f h | inr k ↦ order g f one k ])

pub best_same : (o : Option RuleFault) (H K : RuleFault → Type 0) → Best o H → ((f : RuleFault) → H f → K f) → ((f : RuleFault) → K f → H f) → Best o K
best_same None H K none to from = λ f k. none f (from f k)
best_same (Some g) H K (one, first) to from = (to g one, λ f k. first f (from f k))

-- a fault of the item at some place of a list, whose places are counted from n
abbrev pub At : {X : Type 0} → (ℕ → X → RuleFault → Type 0) → ℕ → List X → RuleFault → Type 0
At {X} H n xs f = (i : ℕ) × (x : X) × (slice_get xs i ≡ Some x) × H (n + i) x f

module _ {X : Type 0} (H : ℕ → X → RuleFault → Type 0) where
  at_first : (n : ℕ) (x : X) (xs : List X) (f : RuleFault) → H n x f ⊎ At H (n + 1) xs f → At H n (x ∷ xs) f
  at_first n x xs f (inl h) = (0, x, refl, subst (λ (m : ℕ). H m x f) (omega arith) h)
  at_first n x xs f (inr (i, y, there, h)) = (suc i, y, there, subst (λ (m : ℕ). H m y f) (omega arith) h)

  first_at : (n : ℕ) (x : X) (xs : List X) (f : RuleFault) (i : ℕ) (y : X) → slice_get (x ∷ xs) i ≡ Some y → H (n + i) y f → H n x f ⊎ At H (n + 1) xs f
  first_at n x xs f zero y there h =
      let at_n : H n y f = subst (λ (m : ℕ). H m y f) (omega arith) h in
      inl (subst (λ (z : X). H n z f) (sym (same_Some x y there)) at_n)
  first_at n x xs f (suc i) y there h = inr (i, y, there, subst (λ (m : ℕ). H m y f) (omega arith) h)

  pub first_best : (fault : ℕ → X → Option RuleFault) → ((n : ℕ) (x : X) → Best (fault n x) (H n x))
      → ((m n : ℕ) (x y : X) (f g : RuleFault) → m < n → H m x f → H n y g → comes_before g f ≡ false)
      → (n : ℕ) (xs : List X) → Best (first_from fault n xs) (At H n xs)
  first_best fault each order n [] = λ f (i, x, there, h). none-some x there
  first_best fault each order n (x ∷ xs) =
      best_same (first_from fault n (x ∷ xs)) (λ f. H n x f ⊎ At H (n + 1) xs f) (At H n (x ∷ xs))
      (best_or (fault n x) (first_from fault (n + 1) xs) (H n x) (At H (n + 1) xs) (each n x) (first_best fault each order (n + 1) xs)
      (λ f g h (i, y, there, k). order n (n + 1 + i) x y f g (omega arith) h k))
      (at_first n x xs) (λ f (i, y, there, h). first_at n x xs f i y there h)
