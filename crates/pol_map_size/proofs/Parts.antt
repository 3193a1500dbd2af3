-- Entries of one part of a map come from the numbers of that part alone.
use Rattle.std.proofs.Common.{◌≡◌, ℕ, Bool, true, false, not, cond, List, [], ◌∷◌, ◌++◌, map, filter, Option, refl, sym, ◌∙◌, ap, subst}
use Rattle.std.proofs.lemmas.Bool.{and_parts, both_ways, false_from_ne_true}
use Rattle.std.proofs.lemmas.Grind.{flat_map-append}
use Rattle.std.proofs.lemmas.List.Elements.{filter-append}
use Rattle.std.proofs.lemmas.List.Kept.{IsStrictlySortedBy-filter}
use Rattle.std.specs.List.{Contains, flat_map}
use Rattle.pol_data.proofs.Ascending.{same_members}
use Rattle.pol_data.proofs.Members.{Contains-filter, Contains-from_In, Contains-from_filter, In-from_Contains, passes-from_filter}
use Rattle.pol_ports.specs.declared.Direction.{Direction}
use Rattle.pol_ports.specs.declared.Direction.TheVariants.{Ingress, Egress}
use Rattle.pol_mapkey.specs.Entries.{Entry as MapEntry}
use Rattle.pol_mapkey.specs.MapKey.{covers, same_key, strictly_covers}
use Rattle.pol_mapkey.specs.declared.Kind.{Kind}
use Rattle.pol_mapkey.specs.declared.Kind.TheVariants.{Allow, Deny}
use Rattle.pol_mapkey.specs.declared.MapKey.{MapKey}
use Rattle.pol_mapkey.proofs.Keys.{covers_is}
use Rattle.pol_rule.specs.Covers.{has_effect}
use Rattle.pol_rule.specs.declared.policy.Entry.{Entry}
use Rattle.pol_rule.specs.declared.policy.Peer.{Peer}
use Rattle.pol_rule.specs.declared.policy.Peers.{Peers}
use Rattle.pol_rule.specs.declared.policy.Peers.TheVariants.{Every, Listed}
use Rattle.pol_rule.specs.declared.policy.PortSpec.{PortSpec}
use Rattle.pol_model.specs.PolicyMap.{MapParts, allow_every, canonical, direction_entries, entry_entries, localhost_entries, peer_numbers, peers_numbers, ports_keys, raw_entries, unenforced_entries}
use Rattle.pol_model.specs.Selects.{is_all}
use Rattle.pol_model_laws.specs.MapFacts.{HasKey, IsUnderNoDeny}
use Rattle.pol_model_laws.proofs.Canonical.{canonical_ascends, canonical_denies, canonical_keys}
use Rattle.pol_model_laws.proofs.Merged.{entry_cmp, entry_cmp_total}
use Rattle.pol_distill.specs.RawKeys.{entries_for, with_id}
use Rattle.pol_distill.proofs.RawLists.{filter_entries}
use Rattle.pol_map_size.specs.Part.{is_between, is_in}

-- what a number gives with ports
abbrev numbered : Direction → Kind → List PortSpec → ℕ → List MapEntry
numbered dir kind ports id = map (λ key. (key, kind)) (ports_keys dir id ports)

same_kinds : (a b : Kind) → (a ≡ Deny → b ≡ Deny) → (b ≡ Deny → a ≡ Deny) → a ≡ b
same_kinds Allow Allow to back = refl
same_kinds Allow Deny to back = back refl
same_kinds Deny Allow to back = sym (to refl)
same_kinds Deny Deny to back = refl

module _ (from : ℕ) (end : Option ℕ) where
  -- ---- what numbers of other parts give is of other parts
  entries_out : (kind : Kind) (keys : List MapKey) (id : ℕ) → is_between from end id ≡ false → filter (is_in from end) (entries_for kind keys id) ≡ []
  entries_out kind [] id out = refl
  entries_out kind (key ∷ keys) id out =
      ap (λ b. cond b ((with_id id key, kind) ∷ filter (is_in from end) (entries_for kind keys id)) (filter (is_in from end) (entries_for kind keys id))) out
      ∙ entries_out kind keys id out

  -- ---- so lists that differ in these alone give the same to the part
  module _ (give : ℕ → List MapEntry) (outside : (id : ℕ) → is_between from end id ≡ false → filter (is_in from end) (give id) ≡ []) where
    numbers_by : (b : Bool) (id : ℕ) (ids others : List ℕ) → is_between from end id ≡ b
        → filter (is_in from end) (flat_map give ids) ≡ filter (is_in from end) (flat_map give others)
        → filter (is_in from end) (give id ++ flat_map give ids) ≡ filter (is_in from end) (flat_map give (cond b (id ∷ others) others))
    numbers_by true id ids others is rest =
        filter-append (is_in from end) (give id) (flat_map give ids)
        ∙ ap (λ l. filter (is_in from end) (give id) ++ l) rest
        ∙ sym (filter-append (is_in from end) (give id) (flat_map give others))
    numbers_by false id ids others is rest =
        filter-append (is_in from end) (give id) (flat_map give ids)
        ∙ ap (λ l. l ++ filter (is_in from end) (flat_map give ids)) (outside id is)
        ∙ rest

    numbers_in : (ids : List ℕ) → filter (is_in from end) (flat_map give ids) ≡ filter (is_in from end) (flat_map give (filter (is_between from end) ids))
    numbers_in [] = refl
    numbers_in (id ∷ ids) = numbers_by (is_between from end id) id ids (filter (is_between from end) ids) refl (numbers_in ids)

  both_in : (xs xs' ys ys' : List MapEntry) → filter (is_in from end) xs ≡ filter (is_in from end) xs' → filter (is_in from end) ys ≡ filter (is_in from end) ys'
      → filter (is_in from end) (xs ++ ys) ≡ filter (is_in from end) (xs' ++ ys')
  both_in xs xs' ys ys' same same' =
      filter-append (is_in from end) xs ys ∙ (λ i. same i ++ same' i) ∙ sym (filter-append (is_in from end) xs' ys')

  module _ (set other : Peer → List ℕ) (part : (p : Peer) → other p ≡ filter (is_between from end) (set p)) where
    module _ (give : ℕ → List MapEntry) (outside : (id : ℕ) → is_between from end id ≡ false → filter (is_in from end) (give id) ≡ []) where
      peer_by : (b : Bool) (p : Peer)
          → filter (is_in from end) (flat_map give (cond b (0 ∷ []) (set p))) ≡ filter (is_in from end) (flat_map give (cond b (0 ∷ []) (other p)))
      peer_by true p = refl
      peer_by false p = numbers_in give outside (set p) ∙ ap (λ ids. filter (is_in from end) (flat_map give ids)) (sym (part p))

      list_in : (peers : List Peer) → filter (is_in from end) (flat_map give (flat_map (peer_numbers set) peers))
          ≡ filter (is_in from end) (flat_map give (flat_map (peer_numbers other) peers))
      list_in [] = refl
      list_in (p ∷ peers) =
          ap (filter (is_in from end)) (flat_map-append give (peer_numbers set p) (flat_map (peer_numbers set) peers))
          ∙ filter-append (is_in from end) (flat_map give (peer_numbers set p)) (flat_map give (flat_map (peer_numbers set) peers))
          ∙ (λ i. peer_by (is_all p) p i ++ list_in peers i)
          ∙ sym (filter-append (is_in from end) (flat_map give (peer_numbers other p)) (flat_map give (flat_map (peer_numbers other) peers)))
          ∙ sym (ap (filter (is_in from end)) (flat_map-append give (peer_numbers other p) (flat_map (peer_numbers other) peers)))

      peers_in : (peers : Peers) → filter (is_in from end) (flat_map give (peers_numbers set peers)) ≡ filter (is_in from end) (flat_map give (peers_numbers other peers))
      peers_in Every = refl
      peers_in (Listed peers) = list_in peers

    entry_by : (b : Bool) (dir : Direction) (kind : Kind) (entry : Entry)
        → filter (is_in from end) (cond b (flat_map (numbered dir kind entry.ports) (peers_numbers set entry.peers)) [])
        ≡ filter (is_in from end) (cond b (flat_map (numbered dir kind entry.ports) (peers_numbers other entry.peers)) [])
    entry_by true dir kind entry =
        ap (filter (is_in from end)) (sym (filter_entries dir kind entry.ports (peers_numbers set entry.peers)))
        ∙ peers_in (entries_for kind (ports_keys dir 0 entry.ports)) (entries_out kind (ports_keys dir 0 entry.ports)) entry.peers
        ∙ ap (filter (is_in from end)) (filter_entries dir kind entry.ports (peers_numbers other entry.peers))
    entry_by false dir kind entry = refl

    entries_in : (dir : Direction) (kind : Kind) (entries : List Entry)
        → filter (is_in from end) (flat_map (entry_entries set dir kind) entries) ≡ filter (is_in from end) (flat_map (entry_entries other dir kind) entries)
    entries_in dir kind [] = refl
    entries_in dir kind (entry ∷ entries) =
        filter-append (is_in from end) (entry_entries set dir kind entry) (flat_map (entry_entries set dir kind) entries)
        ∙ (λ i. entry_by (has_effect entry) dir kind entry i ++ entries_in dir kind entries i)
        ∙ sym (filter-append (is_in from end) (entry_entries other dir kind entry) (flat_map (entry_entries other dir kind) entries))

    direction_in : (parts : MapParts) (dir : Direction)
        → filter (is_in from end) (direction_entries set parts dir) ≡ filter (is_in from end) (direction_entries other parts dir)
    direction_in parts dir =
        let allows = flat_map (entry_entries set dir Allow) (parts.allows dir) in
        let denies = flat_map (entry_entries set dir Deny) (parts.denies dir) in
        let allows' = flat_map (entry_entries other dir Allow) (parts.allows dir) in
        let denies' = flat_map (entry_entries other dir Deny) (parts.denies dir) in
        let loose = unenforced_entries parts dir in
        let host = localhost_entries parts dir in
        both_in (allows ++ denies ++ loose) (allows' ++ denies' ++ loose) host host
        (both_in (allows ++ denies) (allows' ++ denies') loose loose
        (both_in allows allows' denies denies' (entries_in dir Allow (parts.allows dir)) (entries_in dir Deny (parts.denies dir))) refl) refl

    raw_by : (b : Bool) (parts : MapParts)
        → filter (is_in from end) (cond b (allow_every Ingress 0 ∷ allow_every Egress 0 ∷ []) (direction_entries set parts Ingress ++ direction_entries set parts Egress))
        ≡ filter (is_in from end) (cond b (allow_every Ingress 0 ∷ allow_every Egress 0 ∷ []) (direction_entries other parts Ingress ++ direction_entries other parts Egress))
    raw_by true parts = refl
    raw_by false parts =
        filter-append (is_in from end) (direction_entries set parts Ingress) (direction_entries set parts Egress)
        ∙ (λ i. direction_in parts Ingress i ++ direction_in parts Egress i)
        ∙ sym (filter-append (is_in from end) (direction_entries other parts Ingress) (direction_entries other parts Egress))

    raw_in : (parts : MapParts) → filter (is_in from end) (raw_entries set parts) ≡ filter (is_in from end) (raw_entries other parts)
    raw_in parts = raw_by parts.never parts

  -- ---- raw entries that have the same of the part make a map that has
  module _ (raw other : List MapEntry) (same : filter (is_in from end) raw ≡ filter (is_in from end) other) where
    raw_there : (e : MapEntry) → is_in from end e ≡ true → Contains raw e → Contains other e
    raw_there e inside has =
        Contains-from_filter (is_in from end) other e
        (subst (λ l. Contains l e) same (Contains-filter (is_in from end) raw e inside has))

    raw_back : (e : MapEntry) → is_in from end e ≡ true → Contains other e → Contains raw e
    raw_back e inside has =
        Contains-from_filter (is_in from end) raw e
        (subst (λ l. Contains l e) (sym same) (Contains-filter (is_in from end) other e inside has))

    under_none : (key : MapKey) → is_between from end key.id ≡ true → IsUnderNoDeny raw key → IsUnderNoDeny other key
    under_none key inside none deny has =
        false_from_ne_true (strictly_covers deny key) (λ over.
        let wide = covers_is deny key (and_parts (covers deny key) (not (same_key deny key)) over).0 in
        let there = raw_back (deny, Deny) (ap (is_between from end) wide.1 ∙ inside) has in
        both_ways (strictly_covers deny key) (none deny there) over)

    key_there : (key : MapKey) → is_between from end key.id ≡ true → HasKey (canonical raw) key → HasKey (canonical other) key
    key_there key inside has =
        let of_raw = (canonical_keys raw key).0 has in
        (canonical_keys other key).1 ((of_raw.0.0, raw_there (key, of_raw.0.0) inside of_raw.0.1), under_none key inside of_raw.1)

    one_kind : (key : MapKey) (kind kind' : Kind) → is_between from end key.id ≡ true → Contains (canonical raw) (key, kind)
        → Contains (canonical other) (key, kind') → kind' ≡ kind
    one_kind key kind kind' inside has has' =
        let own = canonical_denies raw key kind has in
        let own' = canonical_denies other key kind' has' in
        same_kinds kind' kind (λ deny. own.1 (raw_back (key, Deny) inside (own'.0 deny))) (λ deny. own'.1 (raw_there (key, Deny) inside (own.0 deny)))

    entry_there : (e : MapEntry) → Contains (filter (is_in from end) (canonical raw)) e → Contains (filter (is_in from end) (canonical other)) e
    entry_there e has =
        let inside = passes-from_filter (is_in from end) (canonical raw) e has in
        let own = Contains-from_filter (is_in from end) (canonical raw) e has in
        let there = key_there e.0 inside (e.1, own) in
        Contains-filter (is_in from end) (canonical other) e inside
        (subst (λ kind. Contains (canonical other) (e.0, kind)) (one_kind e.0 e.1 there.0 inside own there.1) there.1)

  pub canonical_in : (raw other : List MapEntry) → filter (is_in from end) raw ≡ filter (is_in from end) other
      → filter (is_in from end) (canonical raw) ≡ filter (is_in from end) (canonical other)
  canonical_in raw other same =
      same_members entry_cmp_total (filter (is_in from end) (canonical raw)) (filter (is_in from end) (canonical other)) (IsStrictlySortedBy-filter entry_cmp (is_in from end) (canonical raw) (canonical_ascends raw))
      (IsStrictlySortedBy-filter entry_cmp (is_in from end) (canonical other) (canonical_ascends other))
      (λ e there. In-from_Contains _ e (entry_there raw other same e (Contains-from_In _ e there)))
      (λ e there. In-from_Contains _ e (entry_there other raw (sym same) e (Contains-from_In _ e there)))

  pub map_in : (set other : Peer → List ℕ) → ((p : Peer) → other p ≡ filter (is_between from end) (set p)) → (parts : MapParts)
      → filter (is_in from end) (canonical (raw_entries set parts)) ≡ filter (is_in from end) (canonical (raw_entries other parts))
  map_in set other part parts = canonical_in (raw_entries set parts) (raw_entries other parts) (raw_in set other part parts)
