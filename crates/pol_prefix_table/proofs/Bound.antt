-- A trie has at most twice as many nodes as numbers, and one more.
use Rattle.std.proofs.Common.{◌≡◌, ℕ, suc, ◌+◌, ◌*◌, ◌≤◌, cond, length, List, [], ◌∷◌, is_some, Option, Some, None, refl, sym, ap, ◌∙◌, arith}
use Rattle.std.specs.FinMap as map
use Rattle.slab.specs.Slab.{Slab, get, slab_len}
use Rattle.pol_addr.specs.declared.family.Family.{Family}
use Rattle.pol_addr.specs.declared.network.Prefix.{Prefix}
use Rattle.pol_addr.specs.Order.{prefix_cmp}
use Rattle.pol_addr.proofs.Order.{prefix_cmp_total}
use Rattle.pol_prefix_table.specs.declared.node.PrefixNode.{PrefixNode}
use Rattle.pol_prefix_table.specs.Sizes.{sum_of, one, count, links, IsTight}
use Rattle.pol_prefix_table.specs.Trie.{IsTrie, numbered, entry_before, map_of}
use Rattle.pol_prefix_table.proofs.Balance.{count_le}
use Rattle.pol_prefix_table.proofs.Lookup.{slot, number_in-absent, Apart, apart_tail}
use Rattle.pol_prefix_table.proofs.Places.{no_nodes}
use Rattle.pol_prefix_table.proofs.Sums.{sum_none, sum_one, sum_needed}

-- ---- as many entries as numbers
abbrev pub Fresh : List (Prefix × ℕ) → Type 0
Fresh [] = Unit {0}
Fresh (e ∷ es) = (map.find prefix_cmp e.0 es ≡ None) × Fresh es

pub len_fresh : (es : List (Prefix × ℕ)) → Fresh es → map.len (map.from_entries {R = prefix_cmp} es) ≡ length es
len_fresh [] fresh = map.len-empty prefix_cmp ℕ
len_fresh (e ∷ es) fresh =
    map.len-insert prefix_cmp_total (map.from_entries es) e.0 e.1
    ∙ more (map.get (map.from_entries es) e.0) (map.len (map.from_entries es)) (map.get-from_entries prefix_cmp_total es e.0 ∙ fresh.0)
    ∙ omega (arith, len_fresh es fresh.1)
  where
    more : (o : Option ℕ) (n : ℕ) → o ≡ None → cond (is_some o) n (n + 1) ≡ n + 1
    more None n e = refl
    more (Some x) n e = cc

fresh_before : (p : Prefix) (number : Option ℕ) (es : List (Prefix × ℕ)) → map.find prefix_cmp p es ≡ None → Fresh es → Fresh (entry_before p number es)
fresh_before p None es none fresh = fresh
fresh_before p (Some x) es none fresh = (none, fresh)

fresh_numbered : (xs : List (Option PrefixNode)) → Apart xs → Fresh (numbered xs)
fresh_numbered [] apart = tt
fresh_numbered (None ∷ xs) apart = fresh_numbered xs (apart_tail None xs apart)
fresh_numbered (Some o ∷ xs) apart =
    fresh_before o.prefix o.number (numbered xs)
    (number_in-absent xs o.prefix (λ j m is same. omega (arith, apart 0 (suc j) o m refl is (sym same))))
    (fresh_numbered xs (apart_tail (Some o) xs apart))

length_before : (p : Prefix) (number : Option ℕ) (es : List (Prefix × ℕ)) → length (entry_before p number es) ≡ count number + length es
length_before p None es = omega arith
length_before p (Some x) es = omega arith

length_numbered : (xs : List (Option PrefixNode)) → length (numbered xs) ≡ sum_of (λ n. count n.number) xs
length_numbered [] = refl
length_numbered (None ∷ xs) = length_numbered xs
length_numbered (Some o ∷ xs) = omega (arith, length_before o.prefix o.number (numbered xs), length_numbered xs)

numbers_len : {family : Family} (s : Slab PrefixNode) → IsTrie family s → map.len (map_of s) ≡ sum_of (λ n. count n.number) s.slots
numbers_len s t =
    let tree = t.tree in
    len_fresh (numbered s.slots) (fresh_numbered s.slots tree.apart) ∙ length_numbered s.slots

-- ---- the bounds
numbers_most : (xs : List (Option PrefixNode)) → sum_of (λ n. count n.number) xs ≤ sum_of one xs
numbers_most [] = omega arith
numbers_most (None ∷ xs) = numbers_most xs
numbers_most (Some n ∷ xs) = omega (arith, count_le n.number, numbers_most xs)

pub nodes_least : {family : Family} (s : Slab PrefixNode) → IsTrie family s → map.len (map_of s) ≤ slab_len s
nodes_least s t = omega (arith, numbers_len s t, sum_one s.slots, numbers_most s.slots)

most_by : {family : Family} (s : Slab PrefixNode) → IsTrie family s → IsTight s → (xs : List (Option PrefixNode)) → s.slots ≡ xs → sum_of one xs ≤ 2 * sum_of (λ n. count n.number) xs + 1
most_by s t tight [] is = omega arith
most_by s t tight (None ∷ xs) is =
    let none : (j : ℕ) → slot xs j ≡ None = λ j. absent j (slot xs j) refl in
    let sum : sum_of one xs ≡ 0 = sum_none one xs none in
    omega (arith, sum)
  where
    absent : (j : ℕ) (o : Option PrefixNode) → slot xs j ≡ o → slot xs j ≡ None
    absent j None at = at
    absent j (Some n) at = absurd (no_nodes s t (ap (λ ys. slot ys 0) is) (suc j) n (ap (λ ys. slot ys (suc j)) is ∙ at))
most_by s t tight (Some root ∷ xs) is =
    let there : get s 0 ≡ Some root = ap (λ ys. slot ys 0) is in
    let all : sum_of links s.slots + 1 ≡ sum_of one s.slots = t.balanced (ap is_some there) in
    let all_links : sum_of links s.slots ≡ links root + sum_of links xs = ap (sum_of links) is in
    let all_nodes : sum_of one s.slots ≡ 1 + sum_of one xs = ap (sum_of one) is in
    let needed = sum_needed xs (λ j n at. tight (suc j) n (λ same. omega (arith, same)) (λ same. omega (arith, same)) (ap (λ ys. slot ys (suc j)) is ∙ at)) in
    omega (arith, all, all_links, all_nodes, needed)

pub nodes_most : {family : Family} (s : Slab PrefixNode) → IsTrie family s → IsTight s → slab_len s ≤ 2 * map.len (map_of s) + 1
nodes_most s t tight = omega (arith, numbers_len s t, sum_one s.slots, most_by s t tight s.slots refl)
