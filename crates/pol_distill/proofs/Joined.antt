-- Entries in the order of keys, with denies last among those of one key: the last of each key is the merged one.
use Rattle.std.proofs.Common.{suc, ◌≡◌, ◌+◌, Bool, true, false, cond, if◌then◌else◌, List, [], ◌∷◌, get_or, inl, inr, refl, sym, ◌∙◌, ap, subst, arith}
use Rattle.std.proofs.lemmas.Bool.{false_from_ne_true}
use Rattle.std.proofs.lemmas.Cmp.{tied_itself}
use Rattle.std.specs.List.Sorted.{IsSorted}
use Rattle.std.specs.Ordering.{is_lt, match_ordering, ordering_then, ordering_reverse}
use Rattle.std.specs.declared.cmp.Ordering.{Ordering}
use Rattle.std.specs.declared.cmp.Ordering.TheVariants.{Less, Equal, Greater}
use Rattle.pol_mapkey.specs.MapKey.{key_cmp, same_key}
use Rattle.pol_mapkey.specs.contracts.KindOrd.TheImpl as kind_ord
use Rattle.pol_mapkey.specs.contracts.MapKeyOrd.TheImpl as key_ord
use Rattle.pol_mapkey.proofs.Order.{cmp-key_cmp}
use Rattle.pol_mapkey.specs.Entries.{Entry, is_deny}
use Rattle.pol_mapkey.specs.declared.Kind.{Kind}
use Rattle.pol_mapkey.specs.declared.Kind.TheVariants.{Allow, Deny}
use Rattle.pol_mapkey.proofs.Equality.{same_key-is, same_key-self}
use Rattle.pol_mapkey.proofs.KeyOrder.{key_cmp_total, key_cmp-same}
use Rattle.pol_model.specs.PolicyMap.{merged, put_entry, stronger}
use Rattle.pol_distill.specs.Passing.{Follows, Rises, begins_with}

-- the last entry of each key
abbrev pub joined : List Entry → List Entry
joined [] = []
joined (entry ∷ entries) = if begins_with entry.0 entries then joined entries else entry ∷ joined entries

-- what the joined list begins with
record Begins (y : Entry) (entries : List Entry) : Type 0 where
  kind : Kind
  others : List Entry
  is : entries ≡ (y.0, kind) ∷ others
  kept : is_deny y.1 ≡ true → is_deny kind ≡ true

followed_key : (a b : Entry) → Follows a b → same_key b.0 a.0 ≡ true → (a.0 ≡ b.0) × (is_deny a.1 ≡ true → is_deny b.1 ≡ true)
followed_key a b (inl less) t =
    let same = same_key-is b.0 a.0 t in
    absurd (let wrong : Less ≡ Equal = sym less ∙ ap (key_cmp a.0) same ∙ tied_itself key_cmp_total a.0 in cc)
followed_key a b (inr rest) t = rest

begins : (y : Entry) (ys : List Entry) → Rises (y ∷ ys) → Begins y (joined (y ∷ ys))
begins y [] up = record { kind = y.1; others = []; is = refl; kept = λ t. t }
begins y (z ∷ zs) up = by_key (same_key z.0 y.0) refl (begins z zs up.1)
  where
    by_key : (b : Bool) → same_key z.0 y.0 ≡ b → Begins z (joined (z ∷ zs)) → Begins y (cond b (joined (z ∷ zs)) (y ∷ joined (z ∷ zs)))
    by_key false f next = record { kind = y.1; others = joined (z ∷ zs); is = refl; kept = λ t. t }
    by_key true t next =
        let same = followed_key y z up.0 t in
        record { kind = next.kind; others = next.others; is = next.is ∙ ap (λ k. (k, next.kind) ∷ next.others) (sym same.0); kept = λ d. next.kept (same.1 d) }

stronger_later : (a b : Kind) → (is_deny a ≡ true → is_deny b ≡ true) → stronger a b ≡ b
stronger_later Allow b later = refl
stronger_later Deny Allow later = absurd (let wrong = later refl in let wrong' : ⊥ = cc in wrong')
stronger_later Deny Deny later = refl

-- putting an entry before those that it doesn't exceed
put_first : (x y : Entry) (ys : List Entry) → Follows x y → (made : List Entry) → Begins y made
    → put_entry x made ≡ cond (same_key y.0 x.0) made (x ∷ made)
put_first x y ys (inl less) made front =
    let apart : same_key y.0 x.0 ≡ false = false_from_ne_true (same_key y.0 x.0) (λ t.
    let wrong : Less ≡ Equal = sym less ∙ ap (key_cmp x.0) (same_key-is y.0 x.0 t) ∙ tied_itself key_cmp_total x.0 in cc) in
    ap (put_entry x) front.is
    ∙ ap (λ o. match_ordering o (x ∷ (y.0, front.kind) ∷ front.others) ((y.0, stronger x.1 front.kind) ∷ front.others) ((y.0, front.kind) ∷ put_entry x front.others)) less
    ∙ ap (λ l. x ∷ l) (sym front.is)
    ∙ sym (ap (λ b. cond b made (x ∷ made)) apart)
put_first x y ys (inr same) made front =
    let one : same_key y.0 x.0 ≡ true = ap (same_key y.0) same.0 ∙ same_key-self y.0 in
    let equal : key_cmp x.0 y.0 ≡ Equal = ap (λ k. key_cmp k y.0) same.0 ∙ tied_itself key_cmp_total y.0 in
    ap (put_entry x) front.is
    ∙ ap (λ o. match_ordering o (x ∷ (y.0, front.kind) ∷ front.others) ((y.0, stronger x.1 front.kind) ∷ front.others) ((y.0, front.kind) ∷ put_entry x front.others)) equal
    ∙ ap (λ k. (y.0, k) ∷ front.others) (stronger_later x.1 front.kind (λ d. front.kept (same.1 d)))
    ∙ sym front.is
    ∙ sym (ap (λ b. cond b made (x ∷ made)) one)

-- of entries in this order the merged ones are the last of each key
pub joined_is : (xs : List Entry) → Rises xs → merged xs ≡ joined xs
joined_is [] up = refl
joined_is (x ∷ []) up = refl
joined_is (x ∷ y ∷ ys) up =
    ap (put_entry x) (joined_is (y ∷ ys) up.1) ∙ put_first x y ys up.0 (joined (y ∷ ys)) (begins y ys up.1)

-- what the derived order of entries says
kinds_rise : (a b : Kind) → is_lt (kind_ord.ghosts.cmp b a) ≡ false → is_deny a ≡ true → is_deny b ≡ true
kinds_rise Allow b low d = absurd (let wrong : ⊥ = cc in wrong)
kinds_rise Deny Allow low d = absurd (let wrong : true ≡ false = low in let wrong' : ⊥ = cc in wrong')
kinds_rise Deny Deny low d = refl

abbrev derived_order : Entry → Entry → Ordering
derived_order a b = ordering_then (key_ord.ghosts.cmp a.0 b.0) (kind_ord.ghosts.cmp a.1 b.1)

follows : (a b : Entry) → is_lt (derived_order b a) ≡ false → Follows a b
follows a b low = by_key (key_cmp b.0 a.0) refl (sym (ap (λ o. is_lt (ordering_then o (kind_ord.ghosts.cmp b.1 a.1))) (cmp-key_cmp b.0 a.0)) ∙ low)
  where
    by_key : (o : Ordering) → key_cmp b.0 a.0 ≡ o → is_lt (ordering_then o (kind_ord.ghosts.cmp b.1 a.1)) ≡ false → Follows a b
    by_key Less e low = absurd (let wrong : true ≡ false = low in let wrong' : ⊥ = cc in wrong')
    by_key Equal e low = inr (sym (key_cmp-same b.0 a.0 e), kinds_rise a.1 b.1 low)
    by_key Greater e low = inl (key_cmp_total.antisymm a.0 b.0 ∙ ap ordering_reverse e)

-- what a sort gives rises
pub rises : (xs : List Entry) → IsSorted derived_order xs → Rises xs
rises [] sorted = tt
rises (x ∷ []) sorted = tt
rises (x ∷ y ∷ ys) sorted = (
  follows x y (sorted 0 x (omega arith) (omega arith)),
  rises (y ∷ ys) (λ k d low within.
      subst (λ m. is_lt (derived_order (get_or (x ∷ y ∷ ys) m d) (get_or (x ∷ y ∷ ys) (suc k) d)) ≡ false) {x = suc k + 1} {y = suc (k + 1)} (omega arith)
      (sorted (suc k) d (omega arith) (omega arith))),
)
