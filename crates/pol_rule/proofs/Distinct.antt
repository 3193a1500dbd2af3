-- Distinct prefixes, gone through from the front.
use Rattle.std.proofs.Common.{◌≡◌, ℕ, ◌+◌, ◌<◌, ◌==◌, Bool, true, false, not, ◌&&◌, ◌||◌, cond, List, [], ◌∷◌, ◌++◌, filter, length, get_or, drop, append_assoc, refl, sym, ap, ◌∙◌}
use Rattle.std.specs.Bool.{Decides}
use Rattle.std.specs.List.{list_any}
use Rattle.std.proofs.lemmas.Bool.{and_parts, eq-eqb, eqb-true}
use Rattle.std.proofs.lemmas.List.{at_drop_more}
use Rattle.std.proofs.lemmas.List.Folds.{list_any-append}
use Rattle.indexmap.specs.IndexSet.{insert_key}
use Rattle.pol_addr.specs.declared.network.Prefix.{Prefix}
use Rattle.pol_addr.specs.Address.{same_addr}
use Rattle.pol_addr.specs.Prefix.{same_prefix}
use Rattle.pol_addr.proofs.ByFamily.{same_addr-is, same_addr_from}
use Rattle.pol_rule.specs.Prefixes.{distinct}

-- the prefix is among these
abbrev pub is_kept : List Prefix → Prefix → Bool
is_kept kept prefix = list_any (λ other. same_prefix other prefix) kept

-- those kept, and of the list those that aren't among them, each once
abbrev pub with_rest : List Prefix → List Prefix → List Prefix
with_rest kept xs = kept ++ filter (λ p. not (is_kept kept p)) (distinct xs)

-- same prefixes are equal
same_is_equal : (p q : Prefix) → same_prefix p q ≡ true → p ≡ q
same_is_equal p q same =
    let parts = and_parts (same_addr p.addr q.addr) (p.len == q.len) same in
    let addr = same_addr-is p.addr q.addr parts.0 in
    let len = eqb-true p.len q.len parts.1 in
    λ i. record { addr = addr i; len = len i }

passed : {X : Type 0} (t c : Bool) (x : X) (xs ys : List X) → c ≡ (t && true) → xs ≡ ys → cond t (x ∷ xs) xs ≡ cond c (x ∷ ys) ys
passed true c x xs ys is same = cc
passed false c x xs ys is same = cc

stopped : {X : Type 0} (t c : Bool) (x : X) (xs ys : List X) → c ≡ (t && false) → xs ≡ ys → xs ≡ cond c (x ∷ ys) ys
stopped true c x xs ys is same = cc
stopped false c x xs ys is same = cc

twice : {X : Type 0} (a : X → Bool) (b c : Bool) (x : X) (xs ys : List X) → c ≡ (a x && b) → filter a xs ≡ ys → filter a (cond b (x ∷ xs) xs) ≡ cond c (x ∷ ys) ys
twice a true c x xs ys is same = passed (a x) c x (filter a xs) ys is same
twice a false c x xs ys is same = stopped (a x) c x (filter a xs) ys is same

filter_twice : {X : Type 0} (a b c : X → Bool) → ((x : X) → c x ≡ (a x && b x)) → (xs : List X) → filter a (filter b xs) ≡ filter c xs
filter_twice a b c is [] = refl
filter_twice a b c is (x ∷ xs) = twice a (b x) (c x) x (filter b xs) (filter c xs) (is x) (filter_twice a b c is xs)

neither : (a s : Bool) → not (a || (s || false)) ≡ (not a && not s)
neither true s = refl
neither false true = refl
neither false false = refl

implied : (a s : Bool) → (s ≡ true → a ≡ true) → not a ≡ (not a && not s)
implied true s h = refl
implied false true h = let e = h refl in cc
implied false false h = refl

rest_new : (kept : List Prefix) (p : Prefix) (xs : List Prefix) → is_kept kept p ≡ false → with_rest kept (p ∷ xs) ≡ with_rest (kept ++ p ∷ []) xs
rest_new kept p xs new =
    let left = filter_twice (λ o. not (is_kept kept o)) (λ o. not (same_prefix p o)) (λ o. not (is_kept (kept ++ p ∷ []) o)) (λ o. ap not (list_any-append (λ other. same_prefix other o) kept (p ∷ [])) ∙ neither (is_kept kept o) (same_prefix p o)) (distinct xs) in
    let others = filter (λ o. not (is_kept (kept ++ p ∷ []) o)) (distinct xs) in
    ap (λ b. kept ++ cond (not b) (p ∷ filter (λ o. not (is_kept kept o)) (filter (λ o. not (same_prefix p o)) (distinct xs))) (filter (λ o. not (is_kept kept o)) (filter (λ o. not (same_prefix p o)) (distinct xs)))) new
    ∙ ap (λ ys. kept ++ (p ∷ ys)) left
    ∙ sym (append_assoc kept (p ∷ []) others)

rest_old : (kept : List Prefix) (p : Prefix) (xs : List Prefix) → is_kept kept p ≡ true → with_rest kept (p ∷ xs) ≡ with_rest kept xs
rest_old kept p xs old =
    let left = filter_twice (λ o. not (is_kept kept o)) (λ o. not (same_prefix p o)) (λ o. not (is_kept kept o)) (λ o. implied (is_kept kept o) (same_prefix p o) (λ same. sym (ap (is_kept kept) (same_is_equal p o same)) ∙ old)) (distinct xs) in
    ap (λ b. kept ++ cond (not b) (p ∷ filter (λ o. not (is_kept kept o)) (filter (λ o. not (same_prefix p o)) (distinct xs))) (filter (λ o. not (is_kept kept o)) (filter (λ o. not (same_prefix p o)) (distinct xs)))) old
    ∙ ap (λ ys. kept ++ ys) left

filter_none : (xs : List Prefix) → filter (λ p. not (is_kept [] p)) xs ≡ xs
filter_none [] = refl
filter_none (x ∷ xs) = ap (λ ys. x ∷ ys) (filter_none xs)

-- before the first
pub kept_none : (kept : List Prefix) (xs : List Prefix) → kept ≡ [] → with_rest kept (drop 0 xs) ≡ distinct xs
kept_none kept xs none = ap (λ ks. with_rest ks xs) none ∙ filter_none (distinct xs)

-- one prefix more, which is kept where it isn't among the kept ones
module _ (same : Prefix → Prefix → Bool) (decides : (p q : Prefix) → Decides (same p q) (p ≡ q)) where
  turned : (p q : Prefix) → same p q ≡ same_prefix q p
  turned p q = same_truth (same p q) (same_prefix q p) (λ is. is_same q p (sym ((decides p q).0 is))) (λ is. (decides p q).1 (sym (same_is_equal q p is)))
    where
      is_same : (p q : Prefix) → p ≡ q → same_prefix p q ≡ true
      is_same p q is = λ i. same_addr_from p.addr q.addr (ap (λ r. r.addr) is) i && eq-eqb p.len q.len (ap (λ r. r.len) is) i

      same_truth : (a b : Bool) → (a ≡ true → b ≡ true) → (b ≡ true → a ≡ true) → a ≡ b
      same_truth true b to back = sym (to refl)
      same_truth false true to back = back refl
      same_truth false false to back = refl

  found : (p : Prefix) (kept : List Prefix) → list_any (same p) kept ≡ is_kept kept p
  found p [] = refl
  found p (k ∷ kept) = λ i. turned p k i || found p kept i

  pub kept_next : (kept new xs : List Prefix) (i : ℕ) (p : Prefix) → i < length xs → p ≡ get_or xs i p → new ≡ insert_key same kept p
      → with_rest kept (drop i xs) ≡ distinct xs → with_rest new (drop (i + 1) xs) ≡ distinct xs
  kept_next kept new xs i p within is next held =
      ap (λ ks. with_rest ks (drop (i + 1) xs)) (next ∙ ap (λ b. cond b kept (kept ++ p ∷ [])) (found p kept))
      ∙ by (is_kept kept p) refl
      ∙ ap (λ q. with_rest kept (q ∷ drop (i + 1) xs)) is ∙ sym (at_drop_more (with_rest kept) xs i p within) ∙ held
    where
      by : (b : Bool) → is_kept kept p ≡ b → with_rest (cond b kept (kept ++ p ∷ [])) (drop (i + 1) xs) ≡ with_rest kept (p ∷ drop (i + 1) xs)
      by true old = sym (rest_old kept p (drop (i + 1) xs) old)
      by false new = sym (rest_new kept p (drop (i + 1) xs) new)
