-- The changes at keys, in order, are the difference of two maps that don't differ at others.
use Rattle.std.proofs.Common.{◌≡◌, true, false, cond, ◌||◌, List, [], ◌∷◌, ◌++◌, Option, None, Some, refl, sym, ◌∙◌, ap, subst, inl, inr}
use Rattle.std.specs.FinMap as finite
use Rattle.std.specs.List.{AllByRecursion, flat_map}
use Rattle.std.specs.List.Sorted.{IsStrictlySortedBy}
use Rattle.std.specs.Option.{option_or}
use Rattle.std.specs.Ordering.{eq_by_cmp}
use Rattle.std.specs.declared.cmp.Ordering.TheVariants.{Less}
use Rattle.std.proofs.lemmas.Bool.{both_ways, cases_Bool, or_from, or_parts, false_from_ne_true}
use Rattle.std.proofs.lemmas.Cmp.{tied_itself}
use Rattle.pol_data.proofs.Every.{every-append}
use Rattle.pol_mapkey.specs.MapKey.{key_cmp, same_key}
use Rattle.pol_mapkey.specs.declared.Kind.{Kind}
use Rattle.pol_mapkey.specs.declared.Kind.TheVariants.{Allow, Deny}
use Rattle.pol_mapkey.specs.declared.MapKey.{MapKey}
use Rattle.pol_mapkey.proofs.Equality.{same_key-is, same_key-self}
use Rattle.pol_mapkey.proofs.KeyOrder.{key_cmp_total}
use Rattle.pol_map_changes.specs.declared.change.Change.{Change}
use Rattle.pol_map_changes.specs.Changes.{IsAscending, IsDifference, difference_at, key_of, said}
use Rattle.pol_map_changes.proofs.Said.{same_of}
use Rattle.pol_trie.specs.PolicyMap.{PolicyMap}
use Rattle.pol_entry_tally.specs.Affected.{change_at, has_key}
use Rattle.pol_entry_tally.proofs.Found.{itself}

module _ (says : MapKey → Option (Option Kind)) where
  abbrev pub made : List MapKey → List Change
  made keys = flat_map (λ key. change_at key (says key)) keys

  -- ---- they ascend
  one_above : (key k : MapKey) (s : Option (Option Kind)) → key_cmp key k ≡ Less → AllByRecursion (λ d. key_cmp key (key_of d) ≡ Less) (change_at k s)
  one_above key k None less = tt
  one_above key k (Some None) less = (less, tt)
  one_above key k (Some (Some kind)) less = (less, tt)

  all_above : (key : MapKey) (ks : List MapKey) → AllByRecursion (λ k. key_cmp key k ≡ Less) ks → AllByRecursion (λ d. key_cmp key (key_of d) ≡ Less) (made ks)
  all_above key [] above = tt
  all_above key (k ∷ ks) above = every-append (λ d. key_cmp key (key_of d) ≡ Less) (change_at k (says k)) (made ks) (one_above key k (says k) above.0) (all_above key ks above.1)

  one_more : (k : MapKey) (s : Option (Option Kind)) (rest : List Change) → AllByRecursion (λ d. key_cmp k (key_of d) ≡ Less) rest → IsAscending rest → IsAscending (change_at k s ++ rest)
  unfolding IsStrictlySortedBy
  one_more k None rest above up = up
  one_more k (Some None) rest above up = (above, up)
  one_more k (Some (Some kind)) rest above up = (above, up)

  pub made_ascends : (ks : List MapKey) → IsStrictlySortedBy key_cmp ks → IsAscending (made ks)
  unfolding IsStrictlySortedBy
  made_ascends [] up = tt
  made_ascends (k ∷ ks) up = one_more k (says k) (made ks) (all_above k ks up.0) (made_ascends ks up.1)

  -- ---- and say of each of the keys what it says
  said_first : (k : MapKey) (s : Option (Option Kind)) (rest : List Change) (q : MapKey) → said (change_at k s ++ rest) q ≡ cond (eq_by_cmp key_cmp q k) (option_or s (said rest q)) (said rest q)
  said_first k None rest q = elim (eq_by_cmp key_cmp q k) as (λ b. said rest q ≡ cond b (said rest q) (said rest q)) [ true ↦ refl | false ↦ refl ]
  said_first k (Some None) rest q = refl
  said_first k (Some (Some kind)) rest q = refl

  none_behind : (k : MapKey) (ks : List MapKey) → AllByRecursion (λ x. key_cmp k x ≡ Less) ks → has_key k ks ≡ false
  none_behind k [] above = refl
  none_behind k (x ∷ ks) above =
      or_from (same_key x k) (has_key k ks)
      (false_from_ne_true (same_key x k) (λ t.
      let less : key_cmp k k ≡ Less = subst (λ y. key_cmp k y ≡ Less) (same_key-is x k t) above.0 in
      let tie = tied_itself key_cmp_total k in cc))
      (none_behind k ks above.1)

  option_none : (s : Option (Option Kind)) → option_or s None ≡ s
  option_none None = refl
  option_none (Some x) = refl

  untied : (q k : MapKey) → same_key k q ≡ false → eq_by_cmp key_cmp q k ≡ false
  untied q k differ =
      false_from_ne_true (eq_by_cmp key_cmp q k) (λ t. both_ways (same_key k q) differ (subst (λ y. same_key k y ≡ true) (sym (same_of q k t)) (same_key-self k)))

  pub said_else : (ks : List MapKey) (q : MapKey) → has_key q ks ≡ false → said (made ks) q ≡ None
  said_else [] q none = refl
  said_else (k ∷ ks) q none =
      let parts = or_parts (same_key k q) (has_key q ks) none in
      said_first k (says k) (made ks) q
      ∙ ap (λ b. cond b (option_or (says k) (said (made ks) q)) (said (made ks) q)) (untied q k parts.0)
      ∙ said_else ks q parts.1

  pub said_here : (ks : List MapKey) → IsStrictlySortedBy key_cmp ks → (q : MapKey) → has_key q ks ≡ true → said (made ks) q ≡ says q
  unfolding IsStrictlySortedBy
  said_here [] up q there = absurd (let wrong : ⊥ = cc in wrong)
  said_here (k ∷ ks) up q there =
      said_first k (says k) (made ks) q ∙ elim (cases_Bool (same_key k q)) [
        | inl t ↦
            (let same : k ≡ q = same_key-is k q t in
            let none : said (made ks) q ≡ None = said_else ks q (subst (λ y. has_key y ks ≡ false) same (none_behind k ks up.0)) in
            let tie : eq_by_cmp key_cmp q k ≡ true = ap (eq_by_cmp key_cmp q) same ∙ itself q in
            ap (λ b. cond b (option_or (says k) (said (made ks) q)) (said (made ks) q)) tie
            ∙ ap (option_or (says k)) none ∙ option_none (says k) ∙ ap says same)
        | inr f ↦
            ap (λ b. cond b (option_or (says k) (said (made ks) q)) (said (made ks) q)) (untied q k f)
            ∙ said_here ks up.1 q (behind f)
      ]
    where
      behind : same_key k q ≡ false → has_key q ks ≡ true
      behind f = sym (ap (λ b. b || has_key q ks) f) ∙ there

nothing : (a : Option Kind) → None ≡ difference_at a a
nothing None = refl
nothing (Some Allow) = refl
nothing (Some Deny) = refl

pub differs : (before after : MapKey → Option Kind) (ks : List MapKey) (t u : PolicyMap) → IsStrictlySortedBy key_cmp ks
    → ((q : MapKey) → finite.get t q ≡ before q) → ((q : MapKey) → finite.get u q ≡ after q)
    → ((q : MapKey) → has_key q ks ≡ false → before q ≡ after q)
    → IsDifference (made (λ key. difference_at (before key) (after key)) ks) t u
differs before after ks t u up old new same =
    let says : MapKey → Option (Option Kind) = λ key. difference_at (before key) (after key) in
    record {
      ascending = made_ascends says ks up;
      exact = λ q. elim (cases_Bool (has_key q ks)) [
        | inl there ↦ said_here says ks up q there ∙ sym (λ i. difference_at (old q i) (new q i))
        | inr none ↦ said_else says ks q none ∙ nothing (before q) ∙ ap (difference_at (before q)) (same q none) ∙ sym (λ i. difference_at (old q i) (new q i))
      ];
    }
