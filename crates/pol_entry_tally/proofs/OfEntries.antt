-- What the canonical map of entries says of a key, by how often the entries give each key each kind.
use Rattle.std.proofs.Common.{◌≡◌, ◌+◌, ◌<◌, ◌^◌, Bool, true, false, ◌&&◌, ◌||◌, cond, nat_lt, List, [], ◌∷◌, count_by, None, Some, refl, sym, ◌∙◌, ap, subst, ◌↔◌, inl, inr, arith}
use Rattle.std.specs.List.{AllByRecursion, Contains, list_any}
use Rattle.std.proofs.lemmas.Bool.{and_from, and_parts, both_ways, cases_Bool, false_from_ne_true, lt-ltb}
use Rattle.std.proofs.lemmas.List.Sums.{sum_by-cons}
use Rattle.pol_data.proofs.Every.{every-contained}
use Rattle.pol_mapkey.specs.Entries.{Entry, is_deny}
use Rattle.pol_mapkey.specs.MapKey.{same_key, strictly_covers}
use Rattle.pol_mapkey.specs.declared.Kind.{Kind}
use Rattle.pol_mapkey.specs.declared.Kind.TheVariants.{Allow, Deny}
use Rattle.pol_mapkey.specs.declared.MapKey.{MapKey}
use Rattle.pol_mapkey.proofs.Equality.{same_key-is, same_key-self}
use Rattle.pol_model_laws.proofs.Canonical.{canonical_ascends, canonical_denies, canonical_keys, deny_is}
use Rattle.pol_model_laws.proofs.Merged.{any_from, denies_key, has_key, passing}
use Rattle.pol_model.specs.PolicyMap.{canonical}
use Rattle.pol_distill.specs.Sorted.{IsSmall}
use Rattle.pol_distill.proofs.AnyLemmas.{any_agree}
use Rattle.pol_entry_tally.specs.Times.{is_entry, is_given, is_under, kind_by, kind_of, same_kind, times}
use Rattle.pol_entry_tally.proofs.Found.{found, kind_in, not_found}
use Rattle.pol_entry_tally.proofs.Wider.{under_from, wide_of}

-- some entry passes exactly where more than none do
pub counted_any : {X : Type 0} (p : X → Bool) (xs : List X) → nat_lt 0 (count_by p xs) ≡ list_any p xs
counted_any p [] = refl
counted_any p (x ∷ xs) = ap (nat_lt 0) (sum_by-cons (λ y. cond (p y) 1 0) x xs) ∙ by (p x) (counted_any p xs)
  where
    by : (b : Bool) → nat_lt 0 (count_by p xs) ≡ list_any p xs → nat_lt 0 (cond b 1 0 + count_by p xs) ≡ (b || list_any p xs)
    by true rest = lt-ltb 0 (1 + count_by p xs) (omega arith)
    by false rest = (let same : 0 + count_by p xs ≡ count_by p xs = omega arith in ap (nat_lt 0) same) ∙ rest

denies_as : (kind : Kind) (b : Bool) → (same_kind kind Deny && b) ≡ (is_deny kind && b)
denies_as Allow b = refl
denies_as Deny b = refl

pub none_kind : (u : Bool) → kind_by u false false ≡ None
none_kind true = refl
none_kind false = refl

module _ (raw : List Entry) where
  given_deny : (key : MapKey) → is_given (times raw) Deny key ≡ denies_key key raw
  given_deny key = counted_any (is_entry key Deny) raw ∙ any_agree (is_entry key Deny) (λ e. is_deny e.1 && same_key e.0 key) (λ e. denies_as e.1 (same_key e.0 key)) raw

  -- what is given is there, and what is there is given
  given_there : (key : MapKey) (kind : Kind) → is_given (times raw) kind key ≡ true → (e : Entry) × Contains raw e × (e.0 ≡ key)
  given_there key kind t =
      let one = passing (is_entry key kind) raw (sym (counted_any (is_entry key kind) raw) ∙ t) in
      (one.0, one.1, same_key-is one.0.0 key (and_parts (same_kind one.0.1 kind) (same_key one.0.0 key) one.2).1)

  deny_given : (deny : MapKey) → Contains raw (deny, Deny) → is_given (times raw) Deny deny ≡ true
  deny_given deny has = given_deny deny ∙ any_from (λ (e : Entry). is_deny e.1 && same_key e.0 deny) raw (deny, Deny) has (same_key-self deny)

  given_is_deny : (w : MapKey) → is_given (times raw) Deny w ≡ true → Contains raw (w, Deny)
  given_is_deny w t =
      let one = passing (λ (e : Entry). is_deny e.1 && same_key e.0 w) raw (sym (given_deny w) ∙ t) in
      let both = and_parts (is_deny one.0.1) (same_key one.0.0 w) one.2 in
      subst (Contains raw) (λ i. (same_key-is one.0.0 w both.1 i, deny_is one.0.1 both.0 i)) one.1

  -- ---- by which keys are there, and which of them are denied
  module _ (key : MapKey) where
    absent : has_key key raw ≡ false → (kind : Kind) → is_given (times raw) kind key ≡ false
    absent none kind =
        false_from_ne_true (is_given (times raw) kind key) (λ t.
        let one = given_there key kind t in
        both_ways (has_key key raw) none (any_from (λ (e : Entry). same_key e.0 key) raw one.0 one.1 (subst (λ k. same_key k key ≡ true) (sym one.2) (same_key-self key))))

    allowed : has_key key raw ≡ true → denies_key key raw ≡ false → is_given (times raw) Allow key ≡ true
    allowed has none =
        let one = passing (λ (e : Entry). same_key e.0 key) raw has in
        counted_any (is_entry key Allow) raw ∙ any_from (is_entry key Allow) raw one.0 one.1
        (and_from (same_kind one.0.1 Allow) (same_key one.0.0 key) (by one.0.1 (λ t. any_from (λ (e : Entry). is_deny e.1 && same_key e.0 key) raw one.0 one.1 (and_from (is_deny one.0.1) (same_key one.0.0 key) t one.2))) one.2)
      where
        by : (kind : Kind) → (is_deny kind ≡ true → denies_key key raw ≡ true) → same_kind kind Allow ≡ true
        by Allow wrong = refl
        by Deny wrong = absurd (both_ways (denies_key key raw) none (wrong refl))

  abbrev Same : MapKey → Type 0
  Same key = kind_in key (canonical raw) ≡ kind_of (times raw) key

  without_key : (key : MapKey) → has_key key raw ≡ false → Same key
  without_key key none =
      not_found (canonical raw) key (λ kind has.
      let there = ((canonical_keys raw key).0 (kind, has)).0 in
      both_ways (has_key key raw) none (any_from (λ (e : Entry). same_key e.0 key) raw (key, there.0) there.1 (same_key-self key)))
      ∙ sym ((λ i. kind_by (is_under (times raw) key) (absent key none Deny i) (absent key none Allow i)) ∙ none_kind (is_under (times raw) key))

  module _ (key : MapKey) (has : has_key key raw ≡ true) (small : key.port.bits < 2 ^ 16) where
    covered : is_under (times raw) key ≡ true → Same key
    covered under =
        not_found (canonical raw) key (λ kind there.
        let w = wide_of (times raw) key small under in
        both_ways (strictly_covers w.0 key) (((canonical_keys raw key).0 (kind, there)).1 w.0 (given_is_deny w.0 w.2)) w.1)
        ∙ sym (ap (λ u. kind_by u (is_given (times raw) Deny key) (is_given (times raw) Allow key)) under)

    kind_is : (kind : Kind) → denies_key key raw ≡ is_deny kind → Some kind ≡ kind_by false (is_given (times raw) Deny key) (is_given (times raw) Allow key)
    kind_is Deny own = sym (ap (λ d. kind_by false d (is_given (times raw) Allow key)) (given_deny key ∙ own))
    kind_is Allow own = sym (λ i. kind_by false ((given_deny key ∙ own) i) (allowed key has own i))

    own_kind : (kind : Kind) → (kind ≡ Deny) ↔ Contains raw (key, Deny) → denies_key key raw ≡ is_deny kind
    own_kind Deny both = sym (given_deny key) ∙ deny_given key (both.0 refl)
    own_kind Allow both =
        false_from_ne_true (denies_key key raw) (λ t. let wrong : Allow ≡ Deny = both.1 (given_is_deny key (given_deny key ∙ t)) in cc)

    uncovered : is_under (times raw) key ≡ false → Same key
    uncovered free =
        let one = passing (λ (e : Entry). same_key e.0 key) raw has in
        let there : Contains raw (key, one.0.1) = subst (Contains raw) (λ i. (same_key-is one.0.0 key one.2 i, one.0.1)) one.1 in
        let stays = (canonical_keys raw key).1 (
          (one.0.1, there),
          λ deny denied. false_from_ne_true (strictly_covers deny key) (λ t.
              both_ways (is_under (times raw) key) free (under_from (times raw) deny key small t (deny_given deny denied))),
        ) in
        found (canonical raw) (canonical_ascends raw) key stays.0 stays.1
        ∙ kind_is stays.0 (own_kind stays.0 (canonical_denies raw key stays.0 stays.1))
        ∙ sym (ap (λ u. kind_by u (is_given (times raw) Deny key) (is_given (times raw) Allow key)) free)

  pub small_key : AllByRecursion IsSmall raw → (key : MapKey) → has_key key raw ≡ true → key.port.bits < 2 ^ 16
  small_key small key has =
      let one = passing (λ (e : Entry). same_key e.0 key) raw has in
      let Small : MapKey → Type 0 = λ k. k.port.bits < 2 ^ 16 in
      subst Small (same_key-is one.0.0 key one.2) (every-contained IsSmall raw one.0 small one.1)

  pub reads : AllByRecursion IsSmall raw → (key : MapKey) → kind_in key (canonical raw) ≡ kind_of (times raw) key
  reads small key =
      elim (cases_Bool (has_key key raw)) [
        | inl has ↦ elim (cases_Bool (is_under (times raw) key)) [
          | inl under ↦ covered key has (small_key small key has) under
          | inr free ↦ uncovered key has (small_key small key has) free
        ]
        | inr none ↦ without_key key none
      ]

  pub given_small : AllByRecursion IsSmall raw → (key : MapKey) (kind : Kind) → is_given (times raw) kind key ≡ true → key.port.bits < 2 ^ 16
  given_small small key kind t =
      let one = given_there key kind t in
      let Small : MapKey → Type 0 = λ k. k.port.bits < 2 ^ 16 in
      subst Small one.2 (every-contained IsSmall raw one.0 small one.1)
