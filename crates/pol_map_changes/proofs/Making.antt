-- One change of a list after the other.
use Rattle.std.proofs.Common.{◌≡◌, ℕ, ◌+◌, ◌-◌, ◌<◌, ◌≤◌, Bool, true, false, cond, List, [], ◌∷◌, ◌++◌, length, take, drop, get_or, is_some, refl, ap, ◌∙◌, arith}
use Rattle.std.specs.FinMap as finite
use Rattle.std.proofs.lemmas.List.{take_more}
use Rattle.std.proofs.lemmas.List.Sums.{sum_by-drop_more}
use Rattle.pol_mapkey.proofs.KeyOrder.{key_cmp_total}
use Rattle.pol_trie.specs.PolicyMap.{PolicyMap}
use Rattle.pol_map_changes.specs.declared.change.Change.{Change}
use Rattle.pol_map_changes.specs.declared.change.Change.TheVariants.{Set, Clear}
use Rattle.pol_map_changes.specs.Changes.{changed, changed_once, kind_after, set_count}

changed_append : (xs ys : List Change) (t : PolicyMap) → changed (xs ++ ys) t ≡ changed ys (changed xs t)
changed_append [] ys t = refl
changed_append (x ∷ xs) ys t = changed_append xs ys (changed_once x t)

-- one change more
pub changed_more : (cs : List Change) (i : ℕ) (c : Change) (t : PolicyMap) → i < length cs → get_or cs i c ≡ c → changed (take (i + 1) cs) t ≡ changed_once c (changed (take i cs) t)
changed_more cs i c t within at =
    ap (λ l. changed l t) (take_more cs i c within)
    ∙ changed_append (take i cs) (get_or cs i c ∷ []) t
    ∙ ap (λ d. changed_once d (changed (take i cs) t)) at

abbrev sets : Change → ℕ
sets c = cond (is_some (kind_after c)) 1 0

zero_plus : (n : ℕ) → n ≡ 0 + n
zero_plus n = omega arith

pub sets_left : (cs : List Change) (i : ℕ) (c : Change) → i < length cs → get_or cs i c ≡ c → set_count (drop i cs) ≡ set_count (c ∷ []) + set_count (drop (i + 1) cs)
sets_left cs i c within at = sum_by-drop_more sets cs i c within ∙ ap (λ d. sets d + set_count (drop (i + 1) cs)) at ∙ ap (λ n. n + set_count (drop (i + 1) cs)) (zero_plus (sets c))

-- a change adds at most one key, and `Clear` adds none
added : (b : Bool) (m n : ℕ) → n ≡ cond b m (m + 1) → n ≤ m + 1
added true m n is = omega arith
added false m n is = omega arith

taken : (b : Bool) (m n : ℕ) → n ≡ cond b (m - 1) m → n ≤ m
taken true m n is = omega arith
taken false m n is = omega arith

pub len_once : (c : Change) (t : PolicyMap) → finite.len (changed_once c t) ≤ finite.len t + set_count (c ∷ [])
len_once (Set key kind) t = added (finite.contains_key t key) (finite.len t) (finite.len (finite.insert t key kind)) (finite.len-insert key_cmp_total t key kind)
len_once (Clear key) t =
    let less : finite.len (finite.remove t key) ≤ finite.len t = taken (finite.contains_key t key) (finite.len t) (finite.len (finite.remove t key)) (finite.len-remove key_cmp_total t key) in
    omega (arith, less)
