-- When an entry may stand behind a table.
use Rattle.std.proofs.Common.{◌≡◌, ◌-◌, Bool, true, IsTrue, List, [], ◌∷◌, ◌++◌, length, get_or, Some, None, refl, sym, ap, subst, ◌∙◌, ◌↔◌, inl, inr, arith}
use Rattle.std.specs.List.{slice_get}
use Rattle.std.specs.List.Sorted.{IsStrictlySortedBy}
use Rattle.std.specs.Ordering.{is_lt}
use Rattle.std.specs.declared.cmp.Ordering.{Ordering}
use Rattle.std.specs.declared.cmp.Ordering.TheVariants.{Less, Equal, Greater}
use Rattle.std.proofs.lemmas.Bool.{cases_order}
use Rattle.std.proofs.lemmas.Map.Keys.{Less-from_sorted}
use Rattle.std.proofs.lemmas.Map.Views.{All-before_last}
use Rattle.std.proofs.lemmas.Option.{get_or_from_slice_get, slice_get_cases, slice_get_within}
use Rattle.pol_data.proofs.Every.{every-append}
use Rattle.pol_data.proofs.Members.{Contains-from_In, In}
use Rattle.pol_mapkey.specs.Entries.{Entry}
use Rattle.pol_mapkey.specs.MapKey.{key_cmp}
use Rattle.pol_mapkey.proofs.KeyOrder.{key_cmp_total}
use Rattle.pol_audit.specs.Tables.{IsTable, entry_order}

pushed : (xs : List Entry) (e : Entry) → IsTable xs → ((q : Entry) → In q xs → entry_order q e ≡ Less) → IsTable (xs ++ e ∷ [])
unfolding IsStrictlySortedBy
pushed [] e up all = (tt, tt)
pushed (x ∷ xs) e up all = (every-append (λ y. entry_order x y ≡ Less) xs (e ∷ []) up.0 (all x (inl refl), tt), pushed xs e up.1 (λ q there. all q (inr there)))

-- what is below an entry above the last one
below_last : (xs : List Entry) (l e : Entry) → IsTable xs → slice_get xs (length xs - 1) ≡ Some l → entry_order l e ≡ Less → (q : Entry) → In q xs → entry_order q e ≡ Less
below_last xs l e up is less q there =
    let at = Contains-from_In xs q there in
    let k = at.0 in let below = at.1 in
    let last : get_or xs (length xs - 1) q ≡ l = get_or_from_slice_get xs (length xs - 1) l q is in
    elim (cases_order k (length xs - 1)) [
      | inl same ↦ subst (λ x. entry_order x e ≡ Less) (sym last ∙ ap (λ n. get_or xs n q) (sym same) ∙ at.2) less
      | inr order ↦ elim order [
        | inl before ↦
            key_cmp_total.trans q.0 l.0 e.0
            (subst (λ x. entry_order x l ≡ Less) at.2 (subst (λ y. entry_order (get_or xs k q) y ≡ Less) last (Less-from_sorted entry_order xs k (length xs - 1) q up before (omega arith))))
            less
        | inr after ↦ absurd (omega arith)
      ]
    ]

lt_is : (o : Ordering) → is_lt o ≡ true → o ≡ Less
lt_is Less t = refl
lt_is Equal t = absurd (let wrong : ⊥ = cc in wrong)
lt_is Greater t = absurd (let wrong : ⊥ = cc in wrong)

pub follows_none : (xs : List Entry) (e : Entry) → slice_get xs (length xs - 1) ≡ None → IsTable (xs ++ e ∷ [])
unfolding IsStrictlySortedBy
follows_none [] e none = (tt, tt)
follows_none (x ∷ xs) e none = elim (slice_get_cases (x ∷ xs) (length (x ∷ xs) - 1)).1 [
  | inl some ↦ absurd (let wrong : Some some.0 ≡ None = sym some.2 ∙ none in let e' : ⊥ = cc in e')
  | inr past ↦ absurd (let far = past.0 in omega arith)
]

pub follows_last : (xs : List Entry) (l e : Entry) (b : Bool) → IsTable xs → slice_get xs (length xs - 1) ≡ Some l → b ≡ is_lt (key_cmp l.0 e.0) → IsTrue b ↔ IsTable (xs ++ e ∷ [])
follows_last xs l e b up is said = (
  λ t. pushed xs e up (below_last xs l e up is (lt_is (key_cmp l.0 e.0) (sym said ∙ t))),
  λ both. said ∙ ap is_lt (subst (λ x. entry_order x e ≡ Less) (get_or_from_slice_get xs (length xs - 1) l e is)
      (All-before_last entry_order xs e both (length xs - 1) e (slice_get_within xs (length xs - 1) l is))),
)
