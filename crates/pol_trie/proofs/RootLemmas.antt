-- The map of the keys of all directions and identities.
use Rattle.std.proofs.Common.{◌≡◌, Bool, true, false, ◌&&◌, cond, if◌then◌else◌, List, [], ◌∷◌, ◌++◌, map, Option, Some, None, option_and_then, flat_map, refl, sym, ap, subst, ◌∙◌, inl, inr}
use Rattle.std.specs.FinMap as finite
use Rattle.std.specs.List.{IsDistinct, AllByRecursion}
use Rattle.std.specs.Map.{lookup, keys_of}
use Rattle.std.specs.Ordering.{eq_by_cmp}
use Rattle.std.proofs.lemmas.Bool.{cases_Bool, both_ways, and_from, and_parts}
use Rattle.pol_ports.specs.declared.Proto.{Proto}
use Rattle.pol_ports.specs.declared.Proto.TheVariants.{Tcp as TcpPackets, Udp as UdpPackets, Sctp as SctpPackets}
use Rattle.pol_ports.specs.declared.PortPrefix.{PortPrefix}
use Rattle.pol_ports.specs.PortPrefix.{empty_prefix, same_prefix, prefix_cmp}
use Rattle.pol_ports.proofs.Same.{same_prefix-is, same_prefix-self}
use Rattle.pol_mapkey.specs.declared.KeyProto.{KeyProto}
use Rattle.pol_mapkey.specs.declared.KeyProto.TheVariants.{Every, Tcp, Udp, Sctp}
use Rattle.pol_mapkey.specs.declared.Kind.{Kind}
use Rattle.pol_mapkey.specs.declared.MapKey.{MapKey}
use Rattle.pol_mapkey.specs.KeyProto.{key_proto, same_key_proto}
use Rattle.pol_mapkey.specs.MapKey.{key_cmp, every_key, port_key}
use Rattle.pol_mapkey.specs.Entries.{Entry}
use Rattle.pol_mapkey.proofs.Keys.{key_same}
use Rattle.pol_mapkey.proofs.KeyOrder.{key_cmp_total, key_cmp-same, prefix_cmp_total, prefix_cmp-same}
use Rattle.pol_trie.specs.declared.root.Root.{Root}
use Rattle.pol_trie.specs.declared.key_set.KeySet.{KeySet}
use Rattle.pol_trie.specs.KeySet.{kind_of}
use Rattle.pol_trie.specs.PortMap.{PortMap}
use Rattle.pol_trie.specs.PolicyMap.{PolicyMap}
use Rattle.pol_trie.specs.Roots.{root_of, every_entry, port_entries, entries_of, policy_of, kind_at}
use Rattle.pol_trie.proofs.Ties.{tied_from, tied_is, untied_from}
use Rattle.pol_trie.proofs.Prefixes.{same_from}
use Rattle.pol_trie.proofs.Listing.{either, find-either}

abbrev key_tie : MapKey → MapKey → Bool
key_tie = eq_by_cmp key_cmp

abbrev key_found : MapKey → List Entry → Option Kind
key_found = finite.find key_cmp

key_tied : (a b : MapKey) → a ≡ b → key_tie a b ≡ true
key_tied = tied_from key_cmp key_cmp_total key_cmp-same

key_untied : (a b : MapKey) → (a ≡ b → ⊥) → key_tie a b ≡ false
key_untied = untied_from key_cmp key_cmp_total key_cmp-same

-- ---- the keys of one protocol
-- a key of the protocol ties where its prefix does
tied_ports : (root : Root) (proto : Proto) (key : MapKey) (port : PortPrefix) → key.dir ≡ root.dir → key.id ≡ root.id → key.proto ≡ key_proto proto
    → key_tie key (port_key root.dir root.id proto port) ≡ eq_by_cmp prefix_cmp key.port port
tied_ports root proto key port dirs ids protos =
    elim (cases_Bool (eq_by_cmp prefix_cmp key.port port)) [
      | inl t ↦ key_tied key (port_key root.dir root.id proto port) (key_same key (port_key root.dir root.id proto port) dirs ids protos (tied_is prefix_cmp prefix_cmp_total prefix_cmp-same key.port port t)) ∙ sym t
      | inr f ↦ key_untied key (port_key root.dir root.id proto port) (λ e.
          both_ways _ f (tied_from prefix_cmp prefix_cmp_total prefix_cmp-same key.port port (ap (λ (k : MapKey). k.port) e))) ∙ sym f
    ]

pub ports_own : (root : Root) (proto : Proto) (key : MapKey) → key.dir ≡ root.dir → key.id ≡ root.id → key.proto ≡ key_proto proto → (es : List (PortPrefix × Kind))
    → key_found key (map (λ e. (port_key root.dir root.id proto e.0, e.1)) es) ≡ finite.find prefix_cmp key.port es
ports_own root proto key dirs ids protos [] = refl
ports_own root proto key dirs ids protos (e ∷ es) =
    ap (λ b. cond b (Some e.1) (key_found key (map (λ e. (port_key root.dir root.id proto e.0, e.1)) es))) (tied_ports root proto key e.0 dirs ids protos)
    ∙ ap (cond (eq_by_cmp prefix_cmp key.port e.0) (Some e.1)) (ports_own root proto key dirs ids protos es)

ports_other : (root : Root) (proto : Proto) (key : MapKey) → (root_of key ≡ root → key.proto ≡ key_proto proto → ⊥) → (es : List (PortPrefix × Kind))
    → key_found key (map (λ e. (port_key root.dir root.id proto e.0, e.1)) es) ≡ None
ports_other root proto key never [] = refl
ports_other root proto key never (e ∷ es) =
    ap (λ b. cond b (Some e.1) (key_found key (map (λ e. (port_key root.dir root.id proto e.0, e.1)) es)))
    (key_untied key (port_key root.dir root.id proto e.0) (λ same. never (λ i. root_of (same i)) (ap (λ (k : MapKey). k.proto) same)))
    ∙ ports_other root proto key never es

found_ports : (root : Root) (proto : Proto) (key : MapKey) (m : PortMap) → root_of key ≡ root → key.proto ≡ key_proto proto → key_found key (port_entries root proto m) ≡ finite.get m key.port
found_ports root proto key m same protos =
    ports_own root proto key (ap (λ (r : Root). r.dir) same) (ap (λ (r : Root). r.id) same) protos (finite.entries m) ∙ sym (finite.get-entries m key.port)

pub missed_ports : (root : Root) (proto : Proto) (key : MapKey) (m : PortMap) → (root_of key ≡ root → key.proto ≡ key_proto proto → ⊥) → key_found key (port_entries root proto m) ≡ None
missed_ports root proto key m never = ports_other root proto key never (finite.entries m)

-- ---- the key for every protocol
found_every : (root : Root) (key : MapKey) (kind : Option Kind) → root_of key ≡ root → key.proto ≡ Every
    → key_found key (every_entry root kind) ≡ (if same_prefix empty_prefix key.port then kind else None)
found_every root key None same protos = nothing (same_prefix empty_prefix key.port) None
  where
    nothing : (s : Bool) (n : Option Kind) → n ≡ (if s then n else n)
    nothing true n = refl
    nothing false n = refl
found_every root key (Some kind) same protos =
    ap (λ b. cond b (Some kind) None)
    (elim (cases_Bool (same_prefix empty_prefix key.port)) [
      | inl t ↦ key_tied key (every_key root.dir root.id) (key_same key (every_key root.dir root.id) (ap (λ (r : Root). r.dir) same) (ap (λ (r : Root). r.id) same) protos (sym (same_prefix-is empty_prefix key.port t))) ∙ sym t
      | inr f ↦ key_untied key (every_key root.dir root.id) (λ e. both_ways _ f (same_from empty_prefix key.port (sym (ap (λ (k : MapKey). k.port) e)))) ∙ sym f
    ])

missed_every : (root : Root) (key : MapKey) (kind : Option Kind) → (root_of key ≡ root → key.proto ≡ Every → ⊥) → key_found key (every_entry root kind) ≡ None
missed_every root key None never = refl
missed_every root key (Some kind) never =
    ap (λ b. cond b (Some kind) None) (key_untied key (every_key root.dir root.id) (λ e. never (λ i. root_of (e i)) (ap (λ (k : MapKey). k.proto) e)))

-- ---- one direction and identity
either_none : (o : Option Kind) → either o None ≡ o
either_none None = refl
either_none (Some k) = refl

found_parts : (e : Root × KeySet) (key : MapKey) → key_found key (entries_of e)
    ≡ either (key_found key (every_entry e.0 e.1.every)) (either (key_found key (port_entries e.0 TcpPackets e.1.tcp)) (either (key_found key (port_entries e.0 UdpPackets e.1.udp)) (key_found key (port_entries e.0 SctpPackets e.1.sctp))))
found_parts e key =
    let every = every_entry e.0 e.1.every in
    let tcp = port_entries e.0 TcpPackets e.1.tcp in
    let udp = port_entries e.0 UdpPackets e.1.udp in
    let sctp = port_entries e.0 SctpPackets e.1.sctp in
    find-either key_cmp every (tcp ++ (udp ++ sctp)) key
    ∙ ap (either (key_found key every)) (find-either key_cmp tcp (udp ++ sctp) key ∙ ap (either (key_found key tcp)) (find-either key_cmp udp sctp key))

join : (a b c d a' b' c' d' : Option Kind) → a ≡ a' → b ≡ b' → c ≡ c' → d ≡ d' → either a (either b (either c d)) ≡ either a' (either b' (either c' d'))
join a b c d a' b' c' d' p q r s = λ i. either (p i) (either (q i) (either (r i) (s i)))

not_same : (a b : KeyProto) → same_key_proto a b ≡ false → a ≡ b → ⊥
not_same a b f e = both_ways (same_key_proto a b) f (ap (same_key_proto a) (sym e) ∙ itself a)
  where
    itself : (a : KeyProto) → same_key_proto a a ≡ true
    itself Every = refl
    itself Tcp = refl
    itself Udp = refl
    itself Sctp = refl

found_own : (e : Root × KeySet) (key : MapKey) → root_of key ≡ e.0 → key_found key (entries_of e) ≡ kind_of e.1 key.proto key.port
found_own e key same = found_parts e key ∙ go key.proto refl
  where
    never : (proto : Proto) (p : KeyProto) → key.proto ≡ p → same_key_proto p (key_proto proto) ≡ false → root_of key ≡ e.0 → key.proto ≡ key_proto proto → ⊥
    never proto p is f _ e' = not_same p (key_proto proto) f (sym is ∙ e')

    never_every : (p : KeyProto) → key.proto ≡ p → same_key_proto p Every ≡ false → root_of key ≡ e.0 → key.proto ≡ Every → ⊥
    never_every p is f _ e' = not_same p Every f (sym is ∙ e')

    go : (p : KeyProto) → key.proto ≡ p
        → either (key_found key (every_entry e.0 e.1.every)) (either (key_found key (port_entries e.0 TcpPackets e.1.tcp)) (either (key_found key (port_entries e.0 UdpPackets e.1.udp)) (key_found key (port_entries e.0 SctpPackets e.1.sctp))))
        ≡ kind_of e.1 p key.port
    go Every is =
        join _ _ _ _ _ None None None (found_every e.0 key e.1.every same is) (missed_ports e.0 TcpPackets key e.1.tcp (never TcpPackets Every is refl))
        (missed_ports e.0 UdpPackets key e.1.udp (never UdpPackets Every is refl)) (missed_ports e.0 SctpPackets key e.1.sctp (never SctpPackets Every is refl))
        ∙ either_none (if same_prefix empty_prefix key.port then e.1.every else None)
    go Tcp is =
        join _ _ _ _ None _ None None (missed_every e.0 key e.1.every (never_every Tcp is refl)) (found_ports e.0 TcpPackets key e.1.tcp same is)
        (missed_ports e.0 UdpPackets key e.1.udp (never UdpPackets Tcp is refl)) (missed_ports e.0 SctpPackets key e.1.sctp (never SctpPackets Tcp is refl))
        ∙ either_none (finite.get e.1.tcp key.port)
    go Udp is =
        join _ _ _ _ None None _ None (missed_every e.0 key e.1.every (never_every Udp is refl)) (missed_ports e.0 TcpPackets key e.1.tcp (never TcpPackets Udp is refl))
        (found_ports e.0 UdpPackets key e.1.udp same is) (missed_ports e.0 SctpPackets key e.1.sctp (never SctpPackets Udp is refl))
        ∙ either_none (finite.get e.1.udp key.port)
    go Sctp is =
        join _ _ _ _ None None None _ (missed_every e.0 key e.1.every (never_every Sctp is refl)) (missed_ports e.0 TcpPackets key e.1.tcp (never TcpPackets Sctp is refl))
        (missed_ports e.0 UdpPackets key e.1.udp (never UdpPackets Sctp is refl)) (found_ports e.0 SctpPackets key e.1.sctp same is)

found_other : (e : Root × KeySet) (key : MapKey) → (root_of key ≡ e.0 → ⊥) → key_found key (entries_of e) ≡ None
found_other e key never =
    found_parts e key
    ∙ join _ _ _ _ None None None None (missed_every e.0 key e.1.every (λ same _. never same)) (missed_ports e.0 TcpPackets key e.1.tcp (λ same _. never same))
    (missed_ports e.0 UdpPackets key e.1.udp (λ same _. never same)) (missed_ports e.0 SctpPackets key e.1.sctp (λ same _. never same))

-- protocols that pass the test are the same
same_protos : (a b : KeyProto) → same_key_proto a b ≡ true → a ≡ b
same_protos Every Every t = refl
same_protos Every Tcp t = cc
same_protos Every Udp t = cc
same_protos Every Sctp t = cc
same_protos Tcp Every t = cc
same_protos Tcp Tcp t = refl
same_protos Tcp Udp t = cc
same_protos Tcp Sctp t = cc
same_protos Udp Every t = cc
same_protos Udp Tcp t = cc
same_protos Udp Udp t = refl
same_protos Udp Sctp t = cc
same_protos Sctp Every t = cc
same_protos Sctp Tcp t = cc
same_protos Sctp Udp t = cc
same_protos Sctp Sctp t = refl

-- ---- all of them, where `eq` is equality
module _ (eq : Root → Root → Bool) (eq-is : (a b : Root) → eq a b ≡ true → a ≡ b) (eq-self : (a : Root) → eq a a ≡ true) where
  pub found_nowhere : (key : MapKey) (es : List (Root × KeySet)) → AllByRecursion (λ r. eq (root_of key) r ≡ false) (keys_of es) → key_found key (flat_map entries_of es) ≡ None
  found_nowhere key [] all = refl
  found_nowhere key (e ∷ es) all =
      find-either key_cmp (entries_of e) (flat_map entries_of es) key
      ∙ (λ i. either (found_other e key (λ same. both_ways _ all.0 (ap (eq (root_of key)) (sym same) ∙ eq-self (root_of key))) i) (found_nowhere key es all.1 i))

  pub found_in_roots : (key : MapKey) (es : List (Root × KeySet)) → IsDistinct eq (keys_of es) → key_found key (flat_map entries_of es) ≡ kind_at eq es key
  unfolding IsDistinct
  found_in_roots key [] distinct = refl
  found_in_roots key (e ∷ es) distinct =
      find-either key_cmp (entries_of e) (flat_map entries_of es) key ∙ by (eq (root_of key) e.0) refl (found_in_roots key es distinct.1)
    where
      by : (b : Bool) → eq (root_of key) e.0 ≡ b → key_found key (flat_map entries_of es) ≡ kind_at eq es key
          → either (key_found key (entries_of e)) (key_found key (flat_map entries_of es)) ≡ option_and_then (λ s. kind_of s key.proto key.port) (cond b (Some e.1) (lookup (eq (root_of key)) es))
      by true t ih =
          let same = eq-is (root_of key) e.0 t in
          let P : Root → Type 0 = λ r. AllByRecursion (λ x. eq r x ≡ false) (keys_of es) in
          (λ i. either (found_own e key same i) (found_nowhere key es (subst P (sym same) distinct.0) i)) ∙ either_none (kind_of e.1 key.proto key.port)
      by false f ih =
          (λ i. either (found_other e key (λ same. both_ways _ f (ap (eq (root_of key)) (sym same) ∙ eq-self (root_of key))) i) (ih i))

  -- the map's kind of a key is that of its direction and identity
  pub get-policy_of : (es : List (Root × KeySet)) → IsDistinct eq (keys_of es) → (key : MapKey) → finite.get (policy_of es) key ≡ kind_at eq es key
  unfolding policy_of
  get-policy_of es distinct key = finite.get-from_entries key_cmp_total (flat_map entries_of es) key ∙ found_in_roots key es distinct

  -- ---- one key gets another kind
  -- the keys of one root are these then, or gone
  pub kind_changes : (old new : List (Root × KeySet)) (key : MapKey) (value : Option Kind) (then_there : Option KeySet)
      → ((r : Root) → lookup (eq r) new ≡ cond (eq (root_of key) r) then_there (lookup (eq r) old))
      → ((p : KeyProto) (q : PortPrefix) → option_and_then (λ s. kind_of s p q) then_there
      ≡ (if same_key_proto key.proto p && same_prefix key.port q then value else option_and_then (λ s. kind_of s p q) (lookup (eq (root_of key)) old)))
      → (q : MapKey) → kind_at eq new q ≡ cond (key_tie q key) value (kind_at eq old q)
  kind_changes old new key value then_there changes kinds q = by (eq (root_of key) (root_of q)) refl
    where
      test : Bool
      test = same_key_proto key.proto q.proto && same_prefix key.port q.port

      protos_same : (a b : KeyProto) → same_key_proto a b ≡ true → a ≡ b
      protos_same a b t = same_protos a b t

      own : (a : KeyProto) → same_key_proto a a ≡ true
      own Every = refl
      own Tcp = refl
      own Udp = refl
      own Sctp = refl

      tests : (a b : MapKey) → a ≡ b → (same_key_proto a.proto b.proto && same_prefix a.port b.port) ≡ true
      tests a b e = and_from _ _ (ap (same_key_proto a.proto) (ap (λ (k : MapKey). k.proto) (sym e)) ∙ own a.proto) (ap (λ (k : MapKey). same_prefix a.port k.port) (sym e) ∙ same_prefix-self a.port)

      test_ties : root_of key ≡ root_of q → test ≡ key_tie q key
      test_ties same =
          elim (cases_Bool test) [
            | inl t ↦
                let both = and_parts (same_key_proto key.proto q.proto) (same_prefix key.port q.port) t in
                t ∙ sym (key_tied q key (sym (key_same key q (ap (λ (r : Root). r.dir) same) (ap (λ (r : Root). r.id) same) (protos_same key.proto q.proto both.0) (same_prefix-is key.port q.port both.1))))
            | inr f ↦ f ∙ sym (key_untied q key (λ e. both_ways _ f (tests key q (sym e))))
          ]

      by : (b : Bool) → eq (root_of key) (root_of q) ≡ b → kind_at eq new q ≡ cond (key_tie q key) value (kind_at eq old q)
      by true t =
          let same = eq-is (root_of key) (root_of q) t in
          ap (option_and_then (λ s. kind_of s q.proto q.port)) (changes (root_of q) ∙ ap (λ b. cond b then_there (lookup (eq (root_of q)) old)) t)
          ∙ kinds q.proto q.port
          ∙ ap (λ r. if test then value else option_and_then (λ s. kind_of s q.proto q.port) (lookup (eq r) old)) same
          ∙ ap (λ b. if b then value else kind_at eq old q) (test_ties same)
      by false f =
          ap (option_and_then (λ s. kind_of s q.proto q.port)) (changes (root_of q) ∙ ap (λ b. cond b then_there (lookup (eq (root_of q)) old)) f)
          ∙ ap (λ b. cond b value (kind_at eq old q)) (sym (key_untied q key (λ e. both_ways _ f (ap (eq (root_of key)) (λ i. root_of (e i)) ∙ eq-self (root_of key)))))

same_policies : (m n : PolicyMap) → ((q : MapKey) → finite.get m q ≡ finite.get n q) → m ≡ n
same_policies = finite.same_map key_cmp_total key_cmp-same
