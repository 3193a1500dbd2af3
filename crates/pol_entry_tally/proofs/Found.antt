-- What a look for a key finds in entries in the order of their keys.
use Rattle.std.proofs.Common.{◌≡◌, Bool, true, false, cond, List, [], ◌∷◌, Option, Some, None, refl, sym, ◌∙◌, ap, subst, inl, inr, arith}
use Rattle.std.specs.FinMap as finite
use Rattle.std.specs.List.{AllByRecursion, Contains}
use Rattle.std.specs.List.Sorted.{IsStrictlySortedBy}
use Rattle.std.specs.Ordering.{eq_by_cmp, is_eq}
use Rattle.std.specs.declared.cmp.Ordering.TheVariants.{Less}
use Rattle.std.proofs.lemmas.Cmp.{tied_itself}
use Rattle.std.proofs.lemmas.Option.{same_Some}
use Rattle.pol_data.proofs.Members.{Contains-cases, Contains-here, Contains-later}
use Rattle.pol_mapkey.specs.Entries.{Entry}
use Rattle.pol_mapkey.specs.MapKey.{key_cmp}
use Rattle.pol_mapkey.specs.declared.Kind.{Kind}
use Rattle.pol_mapkey.specs.declared.MapKey.{MapKey}
use Rattle.pol_mapkey.proofs.KeyOrder.{key_cmp_total}
use Rattle.pol_distill.specs.Sorted.{IsTable, entry_order}
use Rattle.pol_map_changes.proofs.Said.{same_of}

abbrev pub kind_in : MapKey → List Entry → Option Kind
kind_in q xs = finite.find key_cmp q xs

-- a key below all of them is none of theirs
below_none : (q : MapKey) (xs : List Entry) → AllByRecursion (λ (e : Entry). key_cmp q e.0 ≡ Less) xs → kind_in q xs ≡ None
below_none q [] all = refl
below_none q (x ∷ xs) all = ap (λ r. cond (is_eq r) (Some x.1) (kind_in q xs)) all.0 ∙ below_none q xs all.1

-- the head's key is none of the rest
none_after : (q : MapKey) (x : Entry) (xs : List Entry) → AllByRecursion (λ (e : Entry). entry_order x e ≡ Less) xs → eq_by_cmp key_cmp q x.0 ≡ true → kind_in q xs ≡ None
none_after q x xs above tie = below_none q xs (subst (λ k. AllByRecursion (λ (e : Entry). key_cmp k e.0 ≡ Less) xs) (sym (same_of q x.0 tie)) above)

pub itself : (q : MapKey) → eq_by_cmp key_cmp q q ≡ true
itself q = ap is_eq (tied_itself key_cmp_total q)

-- an entry is found by its key
pub found : (xs : List Entry) → IsTable xs → (k : MapKey) (kind : Kind) → Contains xs (k, kind) → kind_in k xs ≡ Some kind
unfolding IsStrictlySortedBy
found [] up k kind has = absurd (omega (arith, has.1))
found (x ∷ xs) up k kind has =
    elim (Contains-cases x xs (k, kind) has) [
      | inl here ↦ (let key : x.0 ≡ k = ap (λ (e : Entry). e.0) here in
          ap (λ b. cond b (Some x.1) (kind_in k xs)) (ap (eq_by_cmp key_cmp k) key ∙ itself k) ∙ ap (λ (e : Entry). Some e.1) here)
      | inr later ↦ by (eq_by_cmp key_cmp k x.0) refl (found xs up.1 k kind later)
    ]
  where
    by : (t : Bool) → eq_by_cmp key_cmp k x.0 ≡ t → kind_in k xs ≡ Some kind → cond t (Some x.1) (kind_in k xs) ≡ Some kind
    by true tie rest = absurd (let wrong : None ≡ Some kind = sym (none_after k x xs up.0 tie) ∙ rest in cc)
    by false other rest = rest

listed : (xs : List Entry) (k : MapKey) (kind : Kind) → kind_in k xs ≡ Some kind → Contains xs (k, kind)
listed [] k kind is = absurd (cc)
listed (x ∷ xs) k kind is = by (eq_by_cmp key_cmp k x.0) refl is (listed xs k kind)
  where
    by : (t : Bool) → eq_by_cmp key_cmp k x.0 ≡ t → cond t (Some x.1) (kind_in k xs) ≡ Some kind → (kind_in k xs ≡ Some kind → Contains xs (k, kind)) → Contains (x ∷ xs) (k, kind)
    by true tie is rest =
        let same : x ≡ (k, kind) = λ i. (sym (same_of k x.0 tie) i, same_Some x.1 kind is i) in
        subst (Contains (x ∷ xs)) same (Contains-here x xs)
    by false other is rest = Contains-later x xs (k, kind) (rest is)

pub not_found : (xs : List Entry) (k : MapKey) → ((kind : Kind) → Contains xs (k, kind) → ⊥) → kind_in k xs ≡ None
not_found xs k none = by (kind_in k xs) refl
  where
    by : (o : Option Kind) → kind_in k xs ≡ o → o ≡ None
    by None is = refl
    by (Some kind) is = absurd (none kind (listed xs k kind is))
