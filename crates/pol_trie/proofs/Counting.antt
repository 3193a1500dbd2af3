-- How many keys and nodes there are.
use Rattle.std.proofs.Common.{◌≡◌, ℕ, ◌+◌, ◌*◌, ◌^◌, ◌≤◌, true, false, cond, if◌then◌else◌, zero, suc, drop, slice_get, List, [], ◌∷◌, ◌++◌, length, map, flat_map, T, Option, Some, None, is_some, refl, sym, ap, subst, ◌∙◌, arith}
use Rattle.std.proofs.lemmas.List.{length-append, length-map}
use Rattle.std.proofs.lemmas.Option.{same_Some}
use Rattle.std.specs.Cmp.{IsTotalOrder}
use Rattle.std.specs.FinMap as finite
use Rattle.std.specs.List.{AllByRecursion, IsDistinct}
use Rattle.std.specs.Map.{keys_of}
use Rattle.std.specs.declared.cmp.Ordering.{Ordering}
use Rattle.std.specs.declared.cmp.Ordering.TheVariants.{Equal}
use Rattle.pol_data.proofs.Every.{every-append, every-weaker}
use Rattle.pol_ports.specs.declared.PortPrefix.{PortPrefix}
use Rattle.pol_ports.specs.declared.Proto.{Proto}
use Rattle.pol_ports.specs.declared.Proto.TheVariants.{Tcp as TcpPackets, Udp as UdpPackets, Sctp as SctpPackets}
use Rattle.pol_ports.specs.PortPrefix.{end_of, prefix_cmp}
use Rattle.pol_mapkey.specs.declared.KeyProto.{KeyProto}
use Rattle.pol_mapkey.specs.declared.KeyProto.TheVariants.{Every, Tcp, Udp, Sctp}
use Rattle.pol_mapkey.specs.declared.Kind.{Kind}
use Rattle.pol_mapkey.specs.KeyProto.{key_proto}
use Rattle.pol_mapkey.specs.MapKey.{key_cmp, port_key}
use Rattle.pol_mapkey.specs.Entries.{Entry}
use Rattle.pol_mapkey.proofs.KeyOrder.{prefix_cmp_total, prefix_cmp-same, key_cmp_total}
use Rattle.pol_trie.specs.declared.root.Root.{Root}
use Rattle.pol_trie.specs.declared.key_set.KeySet.{KeySet}
use Rattle.pol_trie.specs.PortMap.{PortMap}
use Rattle.pol_trie.specs.Tree.{Tree, Leaf, Fork, middle, Inside, Fits, IsFork, IsTight, node_count, listed, entry_before}
use Rattle.pol_trie.specs.Roots.{root_of, every_entry, port_entries, entries_of, policy_of, row_keys}
use Rattle.pol_trie.specs.KeySet.{key_count}
use Rattle.pol_trie.specs.Standing.{IsTrie, Stands, ports_of}
use Rattle.pol_trie.specs.declared.node.PortNode.{PortNode}
use Rattle.pol_arena.specs.Pool.{Pool, node_at}
use Rattle.pol_trie.proofs.Reading.{both_true, less_than, not_less, found_listed}
use Rattle.pol_trie.proofs.RootLemmas.{ports_own, missed_ports, found_nowhere}
use Rattle.pol_trie.proofs.RootCalls.{Rows, same_root, same_root-is, same_root-self}
use Rattle.pol_trie.proofs.Prefixes.{middle_within, not_empty}
use Rattle.pol_trie.proofs.Trees.{outside}
use Rattle.pol_trie.proofs.Listing.{either, find-either, find-listed, tree_at-stands}

-- ---- a list in which no key stands twice
module _ {K X : Type 0} (R : K → K → Ordering) where
  abbrev pub Fresh : List (K × X) → Type 0
  Fresh [] = Unit {0}
  Fresh (e ∷ es) = (finite.find R e.0 es ≡ None) × Fresh es

  neither : (x y : Option X) → x ≡ None → y ≡ None → either x y ≡ None
  neither x y a b = λ i. either (a i) (b i)

  pub Fresh-append : (xs ys : List (K × X)) → Fresh xs → Fresh ys → AllByRecursion (λ e. finite.find R e.0 ys ≡ None) xs → Fresh (xs ++ ys)
  Fresh-append [] ys a b apart = b
  Fresh-append (x ∷ xs) ys a b apart = (
    find-either R xs ys x.0 ∙ neither (finite.find R x.0 xs) (finite.find R x.0 ys) a.0 apart.0,
    Fresh-append xs ys a.1 b apart.1,
  )

  -- its map has as many keys
  pub len-Fresh : IsTotalOrder R → (es : List (K × X)) → Fresh es → finite.len (finite.from_entries {R = R} es) ≡ length es
  len-Fresh total [] fresh = finite.len-empty R X
  len-Fresh total (e ∷ es) fresh =
      finite.len-insert total (finite.from_entries es) e.0 e.1
      ∙ more (finite.get (finite.from_entries es) e.0) (finite.len (finite.from_entries es)) (finite.get-from_entries total es e.0 ∙ fresh.0)
      ∙ omega (arith, len-Fresh total es fresh.1)
    where
      more : (o : Option X) (n : ℕ) → o ≡ None → cond (is_some o) n (n + 1) ≡ n + 1
      more None n e = refl
      more (Some x) n e = cc

-- ---- the tree
-- its entries lie where it does
all_inside : (t : Tree) (lo hi len : ℕ) → Fits t lo hi len → AllByRecursion (λ (e : PortPrefix × Kind). Inside e.0 lo hi len) (listed t)
all_inside Leaf lo hi len fits = tt
all_inside (Fork p kind low high) lo hi len fits = own kind
    (every-append (λ (e : PortPrefix × Kind). Inside e.0 lo hi len) (listed low) (listed high)
    (every-weaker (λ (e : PortPrefix × Kind). Inside e.0 p.bits (middle p) (p.len + 1)) (λ (e : PortPrefix × Kind). Inside e.0 lo hi len) (λ e i. from_low e.0 i) (listed low) (all_inside low p.bits (middle p) (p.len + 1) fits.1))
    (every-weaker (λ (e : PortPrefix × Kind). Inside e.0 (middle p) (end_of p) (p.len + 1)) (λ (e : PortPrefix × Kind). Inside e.0 lo hi len) (λ e i. from_high e.0 i) (listed high) (all_inside high (middle p) (end_of p) (p.len + 1) fits.2)))
  where
    own : (kind : Option Kind) → AllByRecursion (λ (e : PortPrefix × Kind). Inside e.0 lo hi len) (listed low ++ listed high) → AllByRecursion (λ (e : PortPrefix × Kind). Inside e.0 lo hi len) (entry_before p kind (listed low ++ listed high))
    own None all = all
    own (Some k) all = (fits.0, all)

    from_low : (q : PortPrefix) → Inside q p.bits (middle p) (p.len + 1) → Inside q lo hi len
    from_low q i = (let m = middle_within p in let f = fits.0 in (omega (arith, f.0, i.0), omega (arith, f.1, i.1, m.1), omega (arith, f.2, i.2)))

    from_high : (q : PortPrefix) → Inside q (middle p) (end_of p) (p.len + 1) → Inside q lo hi len
    from_high q i = (let m = middle_within p in let f = fits.0 in (omega (arith, f.0, i.0, m.0), omega (arith, f.1, i.1), omega (arith, f.2, i.2)))

pub Fresh-listed : (t : Tree) (lo hi len : ℕ) → Fits t lo hi len → Fresh prefix_cmp (listed t)
Fresh-listed Leaf lo hi len fits = tt
Fresh-listed (Fork p kind low high) lo hi len fits =
    own kind
    (Fresh-append prefix_cmp (listed low) (listed high) (Fresh-listed low p.bits (middle p) (p.len + 1) fits.1) (Fresh-listed high (middle p) (end_of p) (p.len + 1) fits.2)
    (every-weaker (λ (e : PortPrefix × Kind). Inside e.0 p.bits (middle p) (p.len + 1)) (λ (e : PortPrefix × Kind). finite.find prefix_cmp e.0 (listed high) ≡ None) (λ e i. not_high e.0 i) (listed low) (all_inside low p.bits (middle p) (p.len + 1) fits.1)))
  where
    not_high : (q : PortPrefix) → Inside q p.bits (middle p) (p.len + 1) → finite.find prefix_cmp q (listed high) ≡ None
    not_high q i =
        find-listed high (middle p) (end_of p) (p.len + 1) fits.2 q
        ∙ outside high (middle p) (end_of p) (p.len + 1) fits.2 q (λ j. let some = not_empty q in omega (arith, i.1, j.0))

    own : (kind : Option Kind) → Fresh prefix_cmp (listed low ++ listed high) → Fresh prefix_cmp (entry_before p kind (listed low ++ listed high))
    own None fresh = fresh
    own (Some k) fresh = (
      find-either prefix_cmp (listed low) (listed high) p
          ∙ neither prefix_cmp (finite.find prefix_cmp p (listed low)) (finite.find prefix_cmp p (listed high))
          (find-listed low p.bits (middle p) (p.len + 1) fits.1 p ∙ outside low p.bits (middle p) (p.len + 1) fits.1 p (λ i. omega (arith, i.2)))
          (find-listed high (middle p) (end_of p) (p.len + 1) fits.2 p ∙ outside high (middle p) (end_of p) (p.len + 1) fits.2 p (λ i. omega (arith, i.2))),
      fresh,
    )

-- each prefix with a kind has its node, and there are at most twice as many nodes
pub listed-below : (t : Tree) → length (listed t) ≤ node_count t
listed-below Leaf = omega arith
listed-below (Fork p None low high) = omega (arith, length-append (listed low) (listed high), listed-below low, listed-below high)
listed-below (Fork p (Some k) low high) = omega (arith, length-append (listed low) (listed high), listed-below low, listed-below high)

-- with what the tree has at most, whether it is a fork or not
abbrev spared : Tree → ℕ
spared Leaf = 0
spared (Fork p kind low high) = 1

nodes_spared : (t : Tree) → IsTight t → node_count t + spared t ≤ 2 * length (listed t)
nodes_spared Leaf tight = omega arith
nodes_spared (Fork p None low high) tight =
    let a = nodes_spared low tight.1 in
    let b = nodes_spared high tight.2 in
    omega (arith, length-append (listed low) (listed high), fork_spares low tight.0.0, fork_spares high tight.0.1)
  where
    fork_spares : (t : Tree) → IsFork t → spared t ≡ 1
    fork_spares Leaf fork = absurd fork
    fork_spares (Fork p kind low high) fork = refl
nodes_spared (Fork p (Some k) low high) tight =
    let a = nodes_spared low tight.1 in
    let b = nodes_spared high tight.2 in
    omega (arith, length-append (listed low) (listed high))

pub nodes-below : (t : Tree) → IsTight t → node_count t ≤ 2 * length (listed t)
nodes-below t tight = omega (arith, nodes_spared t tight)

-- a tree that stands below a link has a prefix with a kind
pub some_listed : (at : ℕ → Option PortNode) (link : Option ℕ) (t : Tree) → Stands at link t → is_some link ≡ true → IsTight t → 1 ≤ length (listed t)
some_listed at link Leaf stands some tight = absurd (let wrong : false ≡ true = sym (ap is_some stands) ∙ some in cc)
some_listed at link (Fork p kind low high) stands some tight = omega (arith, nodes_spared (Fork p kind low high) tight)

-- ---- the entries of maps
module _ {K X : Type 0} (R : K → K → Ordering) (total : IsTotalOrder R) (same : (a b : K) → R a b ≡ Equal → a ≡ b) where
  pub Fresh-sorted : (es : List (K × X)) → T (finite.is_sorted R es) → Fresh R es
  Fresh-sorted [] sorted = tt
  Fresh-sorted (e ∷ es) sorted = (
    absent (finite.find R e.0 es) (λ x is. not_less R total e.0 (less_than R total same e.0 e.1 es sorted (e.0, x) (found_listed R total same es e.0 x is))),
    Fresh-sorted es (both_true _ _ sorted).1,
  )
    where
      absent : (o : Option X) → ((x : X) → o ≡ Some x → ⊥) → o ≡ None
      absent None never = refl
      absent (Some x) never = absurd (never x refl)

Fresh-keys : (root : Root) (proto : Proto) (es : List (PortPrefix × Kind)) → Fresh prefix_cmp es → Fresh key_cmp (map (λ e. (port_key root.dir root.id proto e.0, e.1)) es)
Fresh-keys root proto [] fresh = tt
Fresh-keys root proto (e ∷ es) fresh = (ports_own root proto (port_key root.dir root.id proto e.0) refl refl refl es ∙ fresh.0, Fresh-keys root proto es fresh.1)

Fresh-ports : (root : Root) (proto : Proto) (m : PortMap) → Fresh key_cmp (port_entries root proto m)
Fresh-ports root proto m = Fresh-keys root proto (finite.entries m) (Fresh-sorted prefix_cmp prefix_cmp_total prefix_cmp-same (finite.entries m) (finite.entries_sorted m))

-- whose entries these are
record IsOf (root : Root) (proto : KeyProto) (e : Entry) : Type 0 where
  root_is : root_of e.0 ≡ root
  proto_is : e.0.proto ≡ proto

every_of : (root : Root) (kind : Option Kind) → AllByRecursion (IsOf root Every) (every_entry root kind)
every_of root None = tt
every_of root (Some kind) = (record { root_is = refl; proto_is = refl }, tt)

keys_of_ports : (root : Root) (proto : Proto) (es : List (PortPrefix × Kind)) → AllByRecursion (IsOf root (key_proto proto)) (map (λ e. (port_key root.dir root.id proto e.0, e.1)) es)
keys_of_ports root proto [] = tt
keys_of_ports root proto (e ∷ es) = (record { root_is = refl; proto_is = refl }, keys_of_ports root proto es)

ports_of_root : (root : Root) (proto : Proto) (m : PortMap) → AllByRecursion (IsOf root (key_proto proto)) (port_entries root proto m)
ports_of_root root proto m = keys_of_ports root proto (finite.entries m)

-- an entry of one protocol is none of another's
missed : (root : Root) (a : KeyProto) (b : Proto) → (a ≡ key_proto b → ⊥) → (m : PortMap) (e : Entry) → IsOf root a e → finite.find key_cmp e.0 (port_entries root b m) ≡ None
missed root a b differs m e of = missed_ports root b e.0 m (λ _ same. differs (sym of.proto_is ∙ same))

Fresh-entries : (e : Root × KeySet) → Fresh key_cmp (entries_of e)
Fresh-entries e =
    let root = e.0 in
    let every = every_entry root e.1.every in
    let tcp = port_entries root TcpPackets e.1.tcp in
    let udp = port_entries root UdpPackets e.1.udp in
    let sctp = port_entries root SctpPackets e.1.sctp in
    Fresh-append key_cmp every (tcp ++ (udp ++ sctp)) (fresh_every root e.1.every)
    (Fresh-append key_cmp tcp (udp ++ sctp) (Fresh-ports root TcpPackets e.1.tcp)
    (Fresh-append key_cmp udp sctp (Fresh-ports root UdpPackets e.1.udp) (Fresh-ports root SctpPackets e.1.sctp)
    (every-weaker (IsOf root Udp) (λ x. finite.find key_cmp x.0 sctp ≡ None) (missed root Udp SctpPackets (λ same. cc) e.1.sctp) udp (ports_of_root root UdpPackets e.1.udp)))
    (every-weaker (IsOf root Tcp) (λ x. finite.find key_cmp x.0 (udp ++ sctp) ≡ None)
    (λ x of. both_missed x udp sctp (missed root Tcp UdpPackets (λ same. cc) e.1.udp x of) (missed root Tcp SctpPackets (λ same. cc) e.1.sctp x of)) tcp (ports_of_root root TcpPackets e.1.tcp)))
    (every-weaker (IsOf root Every) (λ x. finite.find key_cmp x.0 (tcp ++ (udp ++ sctp)) ≡ None)
    (λ x of. both_missed x tcp (udp ++ sctp) (missed root Every TcpPackets (λ same. cc) e.1.tcp x of)
    (both_missed x udp sctp (missed root Every UdpPackets (λ same. cc) e.1.udp x of) (missed root Every SctpPackets (λ same. cc) e.1.sctp x of))) every (every_of root e.1.every))
  where
    both_missed : (x : Entry) (xs ys : List Entry) → finite.find key_cmp x.0 xs ≡ None → finite.find key_cmp x.0 ys ≡ None → finite.find key_cmp x.0 (xs ++ ys) ≡ None
    both_missed x xs ys a b = find-either key_cmp xs ys x.0 ∙ neither key_cmp (finite.find key_cmp x.0 xs) (finite.find key_cmp x.0 ys) a b

    fresh_every : (root : Root) (kind : Option Kind) → Fresh key_cmp (every_entry root kind)
    fresh_every root None = tt
    fresh_every root (Some kind) = (refl, tt)

-- all entries of a row are of its direction and identity
entries_of_root : (e : Root × KeySet) → AllByRecursion (λ (x : Entry). root_of x.0 ≡ e.0) (entries_of e)
entries_of_root e =
    let root = e.0 in
    let every = every_entry root e.1.every in
    let tcp = port_entries root TcpPackets e.1.tcp in
    let udp = port_entries root UdpPackets e.1.udp in
    let sctp = port_entries root SctpPackets e.1.sctp in
    let Q : Entry → Type 0 = λ x. root_of x.0 ≡ root in
    every-append Q every (tcp ++ (udp ++ sctp)) (every-weaker (IsOf root Every) Q (λ x of. of.root_is) every (every_of root e.1.every))
    (every-append Q tcp (udp ++ sctp) (every-weaker (IsOf root Tcp) Q (λ x of. of.root_is) tcp (ports_of_root root TcpPackets e.1.tcp))
    (every-append Q udp sctp (every-weaker (IsOf root Udp) Q (λ x of. of.root_is) udp (ports_of_root root UdpPackets e.1.udp))
    (every-weaker (IsOf root Sctp) Q (λ x of. of.root_is) sctp (ports_of_root root SctpPackets e.1.sctp))))

Fresh-rows : (es : Rows) → IsDistinct same_root (keys_of es) → Fresh key_cmp (flat_map entries_of es)
unfolding IsDistinct
Fresh-rows [] distinct = tt
Fresh-rows (e ∷ es) distinct =
    Fresh-append key_cmp (entries_of e) (flat_map entries_of es) (Fresh-entries e) (Fresh-rows es distinct.1)
    (every-weaker (λ (x : Entry). root_of x.0 ≡ e.0) (λ (x : Entry). finite.find key_cmp x.0 (flat_map entries_of es) ≡ None)
    (λ x same. (let P : Root → Type 0 = λ r. AllByRecursion (λ y. same_root r y ≡ false) (keys_of es) in
    found_nowhere same_root same_root-is same_root-self x.0 es (subst P (sym same) distinct.0))) (entries_of e) (entries_of_root e))

-- ---- how many keys a set and the rows have
length-entries : (e : Root × KeySet) → length (entries_of e) ≡ key_count e.1
length-entries e =
    let every = every_entry e.0 e.1.every in
    let tcp = port_entries e.0 TcpPackets e.1.tcp in
    let udp = port_entries e.0 UdpPackets e.1.udp in
    let sctp = port_entries e.0 SctpPackets e.1.sctp in
    omega (
      arith,
      length-append every (tcp ++ (udp ++ sctp)),
      length-append tcp (udp ++ sctp),
      length-append udp sctp,
      one e.0 e.1.every,
      as_many e.0 TcpPackets e.1.tcp,
      as_many e.0 UdpPackets e.1.udp,
      as_many e.0 SctpPackets e.1.sctp,
    )
  where
    one : (root : Root) (kind : Option Kind) → length (every_entry root kind) ≡ (if is_some kind then 1 else 0)
    one root None = refl
    one root (Some kind) = refl

    as_many : (root : Root) (proto : Proto) (m : PortMap) → length (port_entries root proto m) ≡ finite.len m
    as_many root proto m = length-map (finite.entries m) (λ (e : PortPrefix × Kind). (port_key root.dir root.id proto e.0, e.1)) ∙ sym (finite.len-entries m)

-- the map has as many keys as the rows together
pub len-rows : (es : Rows) → IsDistinct same_root (keys_of es) → finite.len (policy_of es) ≡ row_keys es
unfolding policy_of
len-rows es distinct = len-Fresh key_cmp key_cmp_total (flat_map entries_of es) (Fresh-rows es distinct) ∙ total es
  where
    total : (es : Rows) → length (flat_map entries_of es) ≡ row_keys es
    total [] = refl
    total (e ∷ es) = omega (arith, length-append (entries_of e) (flat_map entries_of es), length-entries e, total es)

pub row_keys-drop : (es : Rows) (i : ℕ) → row_keys (drop i es) ≤ row_keys es
row_keys-drop es zero = omega arith
row_keys-drop [] (suc i) = omega arith
row_keys-drop (e ∷ es) (suc i) = omega (arith, row_keys-drop es i)

-- those from a row on are its own and those after it
pub row_keys-at : (es : Rows) (i : ℕ) (e : Root × KeySet) → slice_get es i ≡ Some e → row_keys (drop i es) ≡ key_count e.1 + row_keys (drop (suc i) es)
row_keys-at [] i e at = absurd (cc)
row_keys-at (x ∷ es) zero e at = ap (λ (y : Root × KeySet). key_count y.1 + row_keys es) (same_Some x e at)
row_keys-at (x ∷ es) (suc i) e at = row_keys-at es i e at

-- how many keys a trie has, by its tree
pub len-ports : (nodes : Pool PortNode) (root : Option ℕ) (w : IsTrie nodes root) → finite.len (ports_of nodes root) ≡ length (listed w.tree)
unfolding ports_of
len-ports nodes root w =
    ap (λ t. finite.len (finite.from_entries {R = prefix_cmp} (listed t))) (tree_at-stands w.tree 17 (node_at nodes) root 0 (2 ^ 16) 0 w.holds.fits (omega arith) w.holds.stands)
    ∙ len-Fresh prefix_cmp prefix_cmp_total (listed w.tree) (Fresh-listed w.tree 0 (2 ^ 16) 0 w.holds.fits)
