-- The trie as a finite map.
use Rattle.std.proofs.Common.{◌≡◌, ℕ, ◌≤◌, ◌↔◌, subst, true, cond, IsSome, is_some, IsNone, IfSome, IfNone, IsTrue, Option, Some, None, refl, sym, ap, ◌∙◌, arith}
use Rattle.std.proofs.lemmas.Option.{none-some}
use Rattle.std.specs.Ordering.{eq_by_cmp}
use Rattle.std.specs.FinMap as map
use Rattle.slab.specs.Slab.{Slab, get}
use Rattle.pol_addr.specs.declared.address.Addr.{Addr}
use Rattle.pol_addr.specs.declared.network.Prefix.{Prefix}
use Rattle.pol_addr.specs.declared.family.Family.{Family}
use Rattle.pol_addr.specs.Families.{width}
use Rattle.pol_addr.specs.Address.{width_of}
use Rattle.pol_addr.specs.Prefix.{host_prefix, contains, covers}
use Rattle.pol_addr.proofs.Containment.{contains-covers, contains-family}
use Rattle.pol_addr.proofs.Halves.{covers_len}
use Rattle.pol_prefix_table.specs.declared.node.PrefixNode.{PrefixNode}
use Rattle.pol_addr.specs.Order.{prefix_cmp}
use Rattle.pol_prefix_table.specs.Sizes.{IsTight}
use Rattle.pol_prefix_table.specs.Table.{IsLongestMatch, NoneMatches}
use Rattle.pol_prefix_table.specs.Trie.{IsTree, IsTrie, numbered, number_of, map_of, Numbers, SameNumbers, IsNumberOver, NoNumberOver}
use Rattle.pol_addr.proofs.Order.{prefix_cmp_total, prefix_cmp-IsAntisymmetric}
use Rattle.pol_prefix_table.proofs.Numbers.{HasNumber, HasNumber-from, number_of-node}

pub get-map_of : (s : Slab PrefixNode) (q : Prefix) → map.get (map_of s) q ≡ number_of s q
get-map_of s q = map.get-from_entries prefix_cmp_total (numbered s.slots) q

pub map_of-insert : (old new : Slab PrefixNode) (p : Prefix) (x : ℕ) → Numbers old new p (Some x) → map_of new ≡ map.insert (map_of old) p x
map_of-insert old new p x numbers =
    map.same_map prefix_cmp_total prefix_cmp-IsAntisymmetric (map_of new) (map.insert (map_of old) p x) (λ q.
    get-map_of new q ∙ numbers q
    ∙ sym (map.get-insert prefix_cmp_total (map_of old) p x q ∙ ap (cond (eq_by_cmp prefix_cmp q p) (Some x)) (get-map_of old q)))

pub map_of-remove : (old new : Slab PrefixNode) (p : Prefix) → Numbers old new p None → map_of new ≡ map.remove (map_of old) p
map_of-remove old new p numbers =
    map.same_map prefix_cmp_total prefix_cmp-IsAntisymmetric (map_of new) (map.remove (map_of old) p) (λ q.
    get-map_of new q ∙ numbers q
    ∙ sym (map.get-remove prefix_cmp_total (map_of old) p q ∙ ap (cond (eq_by_cmp prefix_cmp q p) None) (get-map_of old q)))

-- more room changes nothing
pub IsTrie-room : {family : Family} (s new : Slab PrefixNode) → new ≡ record s { capacity = new.capacity } → IsTrie family s → IsTrie family new
IsTrie-room {family = family} s new same t = subst (IsTrie family) (sym same) (record { fresh = t.fresh; rooted = t.rooted; of_family = t.of_family; tree = t.tree; balanced = t.balanced })

pub tight_room : (s new : Slab PrefixNode) → new ≡ record s { capacity = new.capacity } → IsTight s → IsTight new
tight_room s new same tight i n root other is = tight i n root other (sym (ap (λ x. get x i) same) ∙ is)

pub numbers_room : (s new : Slab PrefixNode) → new ≡ record s { capacity = new.capacity } → SameNumbers s new
numbers_room s new same q = ap (λ x. number_of x q) same

-- a number that comes after a change that left all numbers
pub numbers_after : (old mid new : Slab PrefixNode) (p : Prefix) (x : Option ℕ) → SameNumbers old mid → Numbers mid new p x → Numbers old new p x
numbers_after old mid new p x first second q = second q ∙ ap (cond (eq_by_cmp prefix_cmp q p) x) (first q)

-- ---- the longest match
node_found : (s : Slab PrefixNode) (t : IsTree (get s)) (p : Prefix) → IsSome (map.get (map_of s) p) → (x : ℕ) × HasNumber s p x
node_found s t p some = go (number_of s p) refl (ap is_some (sym (get-map_of s p)) ∙ some)
  where
    go : (o : Option ℕ) → number_of s p ≡ o → IsSome o → (x : ℕ) × HasNumber s p x
    go None is some = absurd (cc)
    go (Some x) is some = (x, HasNumber-from s t p x is)

module _ (s : Slab PrefixNode) (t : IsTree (get s)) (addr : Addr) where
  -- a node whose prefix contains the address covers it as a prefix
  len_at_most : (p : Prefix) (x : ℕ) (h : HasNumber s p x) → IsTrue (contains p addr) → h.node.prefix.len ≤ width_of addr
  len_at_most p x h inside =
      let valid = t.valid h.key h.node h.there in
      let same = ap width (contains-family h.node.prefix addr (ap (λ q. contains q addr) h.prefix ∙ inside)) in
      omega (arith, valid.len_in_range, same)

  over_address : (p : Prefix) (x : ℕ) (h : HasNumber s p x) → IsTrue (contains p addr) → covers h.node.prefix (host_prefix addr) ≡ true
  over_address p x h inside = sym (contains-covers h.node.prefix addr (len_at_most p x h inside)) ∙ ap (λ q. contains q addr) h.prefix ∙ inside

  pub longest_match : (x : ℕ) → IsNumberOver s (host_prefix addr) x → IsLongestMatch (map_of s) addr x
  longest_match x h =
      record {
        prefix = h.node.prefix;
        found = get-map_of s h.node.prefix ∙ number_of-node s t h.key h.node h.there ∙ h.numbered;
        inside = contains-covers h.node.prefix addr (covers_len h.node.prefix (host_prefix addr) h.over) ∙ h.over;
        longest = λ p matches.
            let (y, g) = node_found s t p matches.0 in
            let shorter = h.longest g.key g.node g.there (over_address p y g matches.1) (len_at_most p y g matches.1) (ap is_some g.number) in
            omega (arith, shorter, ap (λ q. q.len) g.prefix);
      }

  pub none_matches : NoNumberOver s (host_prefix addr) → NoneMatches (map_of s) addr
  none_matches none p matches =
      let (y, g) = node_found s t p matches.0 in
      none-some y (sym (none g.key g.node g.there (over_address p y g matches.1) (len_at_most p y g matches.1)) ∙ g.number)

  pub found_by : (r : Option ℕ) → IfSome r (IsNumberOver s (host_prefix addr)) → IfSome r (IsLongestMatch (map_of s) addr)
  found_by None h = h
  found_by (Some x) h = longest_match x h

  pub none_by : (r : Option ℕ) → IfSome r (IsNumberOver s (host_prefix addr)) → IfNone r (NoNumberOver s (host_prefix addr)) → IsNone r ↔ NoneMatches (map_of s) addr
  none_by None h none = (λ _. none_matches none, λ _. refl)
  none_by (Some x) h none = (
    λ is. absurd (cc),
    λ no. let m = longest_match x h in absurd (no m.prefix (ap is_some m.found, m.inside)),
  )
