-- How many entries a map has at most: its keys ascend, and each is one of 2^49 numbers of key and port.
use Rattle.std.proofs.Common.{◌≡◌, ℕ, zero, suc, ◌+◌, ◌*◌, ◌-◌, ◌^◌, ◌≤◌, ◌<◌, min, Bool, true, false, not, cond, List, [], ◌∷◌, ◌++◌, length, map, filter, Ordering, Less, Equal, Greater, ◌⊎◌, ◌&&◌, inl, inr, refl, sym, arith}
use Rattle.std.specs.List.{AllByRecursion, flat_map}
use Rattle.std.specs.List.Sorted.{IsStrictlySortedBy}
use Rattle.std.specs.Ordering.{match_ordering, nat_cmp, ordering_then}
use Rattle.std.proofs.Math.Nat.{div-mul-le_self, two-pow-succ}
use Rattle.std.proofs.lemmas.Cmp.{ranked}
use Rattle.std.proofs.lemmas.Nat.{pow_pos}
use Rattle.pol_data.proofs.Every.{every-append, every-flat_map, every-kept, every-map, every-weaker}
use Rattle.pol_mapkey.specs.Entries.{Entry as MapEntry}
use Rattle.pol_mapkey.specs.KeyProto.{key_proto_cmp, proto_place}
use Rattle.pol_mapkey.specs.MapKey.{every_key, key_cmp, port_key}
use Rattle.pol_mapkey.specs.declared.Kind.{Kind}
use Rattle.pol_mapkey.specs.declared.Kind.TheVariants.{Allow, Deny}
use Rattle.pol_mapkey.specs.declared.KeyProto.{KeyProto}
use Rattle.pol_mapkey.specs.declared.KeyProto.TheVariants as key_of
use Rattle.pol_mapkey.specs.declared.MapKey.{MapKey}
use Rattle.pol_model.specs.PolicyMap.{MapParts, allow_every, canonical, direction_entries, entry_entries, is_under_deny, localhost_entries, map_parts, map_size, merged, peer_numbers, peers_numbers, ports_keys, protos_of, put_entry, raw_entries, spec_keys, stronger, unenforced_entries}
use Rattle.pol_model.specs.Selects.{is_all, selects_row, set_at}
use Rattle.pol_model.specs.State.{State}
use Rattle.pol_model.specs.Verdict.{is_ingress}
use Rattle.pol_model.specs.declared.limits.TheConstants.{EVERY_IDENTITY, HOST_IDENTITY}
use Rattle.pol_model.specs.declared.options.Options.{Options}
use Rattle.pol_model.specs.declared.row.Endpoint.{Endpoint}
use Rattle.pol_model.specs.declared.row.IdentityRow.{IdentityRow}
use Rattle.pol_model_laws.proofs.Canonical.{canonical_ascends}
use Rattle.pol_ports.specs.Direction.{direction_cmp}
use Rattle.pol_ports.specs.PortPrefix.{prefix_at}
use Rattle.pol_ports.specs.Split.{is_part, parts_within, prefixes_within, split_of}
use Rattle.pol_ports.specs.declared.Direction.{Direction}
use Rattle.pol_ports.specs.declared.Direction.TheVariants.{Ingress, Egress}
use Rattle.pol_ports.specs.declared.PortPrefix.{PortPrefix}
use Rattle.pol_ports.specs.declared.PortRange.{PortRange}
use Rattle.pol_ports.specs.declared.Proto.{Proto}
use Rattle.pol_rule.specs.Covers.{has_effect}
use Rattle.pol_rule.specs.declared.policy.Entry.{Entry}
use Rattle.pol_rule.specs.declared.policy.Peer.{Peer}
use Rattle.pol_rule.specs.declared.policy.Peers.{Peers}
use Rattle.pol_rule.specs.declared.policy.Peers.TheVariants.{Every, Listed}
use Rattle.pol_rule.specs.declared.policy.PortSpec.{PortSpec}
use Rattle.answer_laws.proofs.SmallNumbers.{AreSmall, IsSmall, IsSmallRow, IsSmallState}

-- ---- keys that have a number

pub record IsSmallKey (key : MapKey) : Type 0 where
  pub id : IsSmall key.id
  pub bits : key.port.bits < 65536

abbrev IsSmallEntry : MapEntry → Type 0
IsSmallEntry entry = IsSmallKey entry.0

abbrev AreSmallEntries : List MapEntry → Type 0
AreSmallEntries entries = AllByRecursion IsSmallEntry entries

abbrev direction_place : Direction → ℕ
direction_place Ingress = 0
direction_place Egress = 1

-- the number of a key among all keys, in their order
abbrev place_of : MapKey → ℕ
place_of key = (((direction_place key.dir * 33554432 + key.id) * 4 + proto_place key.proto) * 65536 + key.port.bits) * 32 + key.port.len

direction_few : (dir : Direction) → direction_place dir ≤ 1
direction_few Ingress = omega arith
direction_few Egress = omega arith

proto_few : (proto : KeyProto) → proto_place proto ≤ 3
proto_few key_of.Every = omega arith
proto_few key_of.Tcp = omega arith
proto_few key_of.Udp = omega arith
proto_few key_of.Sctp = omega arith

sum_few : (d id proto bits len : ℕ) → d ≤ 1 → id ≤ 16842751 → proto ≤ 3 → bits < 65536 → len ≤ 16
    → (((d * 33554432 + id) * 4 + proto) * 65536 + bits) * 32 + len < 562949953421312
sum_few d id proto bits len a b c e f = omega arith

place_few : (key : MapKey) → IsSmallKey key → place_of key < 562949953421312
place_few key small = sum_few (direction_place key.dir) key.id (proto_place key.proto) key.port.bits key.port.len (direction_few key.dir) small.id (proto_few key.proto) small.bits key.port.short

-- ---- a lesser key has a lesser number

then_less : (o p : Ordering) → ordering_then o p ≡ Less → (o ≡ Less) ⊎ ((o ≡ Equal) × (p ≡ Less))
then_less Less p is = inl refl
then_less Equal p is = inr (refl, is)
then_less Greater p is = absurd cc

nat_less : (x y : ℕ) → nat_cmp x y ≡ Less → x < y
nat_less x y is = ranked x y Less (sym is)

nat_same : (x y : ℕ) → nat_cmp x y ≡ Equal → x ≡ y
nat_same x y is = ranked x y Equal (sym is)

direction_less : (a b : Direction) → direction_cmp a b ≡ Less → direction_place a < direction_place b
direction_less Ingress Ingress is = absurd cc
direction_less Ingress Egress is = omega arith
direction_less Egress Ingress is = absurd cc
direction_less Egress Egress is = absurd cc

direction_same : (a b : Direction) → direction_cmp a b ≡ Equal → direction_place a ≡ direction_place b
direction_same Ingress Ingress is = refl
direction_same Ingress Egress is = absurd cc
direction_same Egress Ingress is = absurd cc
direction_same Egress Egress is = refl

module _ (a b : MapKey) (a_small : IsSmallKey a) where
  by_id : direction_place a.dir ≡ direction_place b.dir → a.id < b.id → place_of a < place_of b
  by_id same less =
      sums_id (direction_place a.dir) (direction_place b.dir) a.id b.id (proto_place a.proto) (proto_place b.proto) a.port.bits b.port.bits a.port.len b.port.len same less
      (proto_few a.proto) a_small.bits a.port.short
    where
      sums_id : (d e id other p q bits more len longer : ℕ) → d ≡ e → id < other → p ≤ 3 → bits < 65536 → len ≤ 16
          → (((d * 33554432 + id) * 4 + p) * 65536 + bits) * 32 + len < (((e * 33554432 + other) * 4 + q) * 65536 + more) * 32 + longer
      sums_id d e id other p q bits more len longer same less few small short = omega arith

  by_direction : direction_place a.dir < direction_place b.dir → place_of a < place_of b
  by_direction less =
      sums (direction_place a.dir) (direction_place b.dir) a.id b.id (proto_place a.proto) (proto_place b.proto) a.port.bits b.port.bits a.port.len b.port.len less a_small.id
      (proto_few a.proto) a_small.bits a.port.short
    where
      sums : (d e id other p q bits more len longer : ℕ) → d < e → id ≤ 16842751 → p ≤ 3 → bits < 65536 → len ≤ 16
          → (((d * 33554432 + id) * 4 + p) * 65536 + bits) * 32 + len < (((e * 33554432 + other) * 4 + q) * 65536 + more) * 32 + longer
      sums d e id other p q bits more len longer less few own small short = omega arith

  by_proto : direction_place a.dir ≡ direction_place b.dir → a.id ≡ b.id → proto_place a.proto < proto_place b.proto → place_of a < place_of b
  by_proto same_dir same less =
      sums (direction_place a.dir) (direction_place b.dir) a.id b.id (proto_place a.proto) (proto_place b.proto) a.port.bits b.port.bits a.port.len b.port.len same_dir same less
      a_small.bits a.port.short
    where
      sums : (d e id other p q bits more len longer : ℕ) → d ≡ e → id ≡ other → p < q → bits < 65536 → len ≤ 16
          → (((d * 33554432 + id) * 4 + p) * 65536 + bits) * 32 + len < (((e * 33554432 + other) * 4 + q) * 65536 + more) * 32 + longer
      sums d e id other p q bits more len longer same_dir same less small short = omega arith

  by_bits : direction_place a.dir ≡ direction_place b.dir → a.id ≡ b.id → proto_place a.proto ≡ proto_place b.proto → a.port.bits < b.port.bits → place_of a < place_of b
  by_bits same_dir same same_proto less =
      sums (direction_place a.dir) (direction_place b.dir) a.id b.id (proto_place a.proto) (proto_place b.proto) a.port.bits b.port.bits a.port.len b.port.len same_dir same
      same_proto less a.port.short
    where
      sums : (d e id other p q bits more len longer : ℕ) → d ≡ e → id ≡ other → p ≡ q → bits < more → len ≤ 16
          → (((d * 33554432 + id) * 4 + p) * 65536 + bits) * 32 + len < (((e * 33554432 + other) * 4 + q) * 65536 + more) * 32 + longer
      sums d e id other p q bits more len longer same_dir same same_proto less short = omega arith

  by_len : direction_place a.dir ≡ direction_place b.dir → a.id ≡ b.id → proto_place a.proto ≡ proto_place b.proto → a.port.bits ≡ b.port.bits → a.port.len < b.port.len
      → place_of a < place_of b
  by_len same_dir same same_proto same_bits less =
      sums (direction_place a.dir) (direction_place b.dir) a.id b.id (proto_place a.proto) (proto_place b.proto) a.port.bits b.port.bits a.port.len b.port.len same_dir same
      same_proto same_bits less
    where
      sums : (d e id other p q bits more len longer : ℕ) → d ≡ e → id ≡ other → p ≡ q → bits ≡ more → len < longer
          → (((d * 33554432 + id) * 4 + p) * 65536 + bits) * 32 + len < (((e * 33554432 + other) * 4 + q) * 65536 + more) * 32 + longer
      sums d e id other p q bits more len longer same_dir same same_proto same_bits less = omega arith

  key_less : key_cmp a b ≡ Less → place_of a < place_of b
  key_less less =
      elim (then_less (direction_cmp a.dir b.dir) _ less) [
        | inl first ↦ by_direction (direction_less a.dir b.dir first)
        | inr (dirs, rest) ↦
            let same_dir = direction_same a.dir b.dir dirs in
            elim (then_less (nat_cmp a.id b.id) _ rest) [
              | inl second ↦ by_id same_dir (nat_less a.id b.id second)
              | inr (ids, more) ↦
                  let same = nat_same a.id b.id ids in
                  elim (then_less (key_proto_cmp a.proto b.proto) _ more) [
                    | inl third ↦ by_proto same_dir same (nat_less (proto_place a.proto) (proto_place b.proto) third)
                    | inr (protos, last) ↦
                        let same_proto = nat_same (proto_place a.proto) (proto_place b.proto) protos in
                        elim (then_less (nat_cmp a.port.bits b.port.bits) _ last) [
                          | inl fourth ↦ by_bits same_dir same same_proto (nat_less a.port.bits b.port.bits fourth)
                          | inr (bits, fifth) ↦ by_len same_dir same same_proto (nat_same a.port.bits b.port.bits bits) (nat_less a.port.len b.port.len fifth)
                        ]
                  ]
            ]
      ]

-- ---- so entries whose keys ascend are few

abbrev entry_cmp : MapEntry → MapEntry → Ordering
entry_cmp a b = key_cmp a.0 b.0

-- with the entries behind it, an entry is within the numbers from its own on
few_from : (entries : List MapEntry) (first : ℕ) → first ≤ 562949953421312 → IsStrictlySortedBy entry_cmp entries → AreSmallEntries entries
    → AllByRecursion (λ (entry : MapEntry). first ≤ place_of entry.0) entries → first + length entries ≤ 562949953421312
unfolding IsStrictlySortedBy
few_from [] first room sorted small from = omega (arith, room)
few_from (entry ∷ others) first room sorted small from =
    let here = place_few entry.0 small.0 in
    let starts : first ≤ place_of entry.0 = from.0 in
    let rest = few_from others (suc (place_of entry.0)) (omega (arith, here)) sorted.1 small.1 (behind others sorted.0) in
    omega (arith, rest, starts)
  where
    behind : (others : List MapEntry) → AllByRecursion (λ (other : MapEntry). key_cmp entry.0 other.0 ≡ Less) others
        → AllByRecursion (λ (other : MapEntry). suc (place_of entry.0) ≤ place_of other.0) others
    behind [] less = tt
    behind (other ∷ others) less = (key_less entry.0 other.0 small.0 less.0, behind others less.1)

-- ---- the keys of a map

prefix_small : (port len : ℕ) → port < 65536 → (prefix_at port len).bits < 65536
prefix_small port len small = let down = div-mul-le_self port (2 ^ (16 - min len 16)) in omega (arith, down, small)

abbrev IsSmallPort : PortPrefix → Type 0
IsSmallPort port = port.bits < 65536

within_small : (height first : ℕ) → first + 2 ^ height ≤ 65536 → AllByRecursion IsSmallPort (prefixes_within height first)
unfolding prefixes_within
within_small zero first room = (prefix_small first 16 (omega (arith, room)), tt)
within_small (suc height) first room =
    let twice = two-pow-succ height in
    let some : 0 < 2 ^ height = pow_pos height in (
      prefix_small first (16 - suc height) (omega (arith, twice, some, room)),
      every-append IsSmallPort (prefixes_within height first) (prefixes_within height (first + 2 ^ height)) (within_small height first (omega (arith, twice, room)))
          (within_small height (first + 2 ^ height) (omega (arith, twice, room))),
    )

split_small : (range : PortRange) → AllByRecursion IsSmallPort (split_of range)
unfolding split_of parts_within
split_small range = every-kept IsSmallPort (is_part range) (prefixes_within 16 0) (within_small 16 0 (omega arith))

module _ (dir : Direction) (id : ℕ) (small : IsSmall id) where
  every_small : IsSmallKey (every_key dir id)
  every_small = record { id = small; bits = omega arith }

  spec_small : (spec : PortSpec) → AllByRecursion IsSmallKey (spec_keys dir id spec)
  spec_small spec = every-flat_map IsSmallKey (λ proto. map (port_key dir id proto) (split_of spec.range)) (protos_of spec.proto) (of_protos (protos_of spec.proto))
    where
      of_protos : (protos : List Proto) → AllByRecursion (λ proto. AllByRecursion IsSmallKey (map (port_key dir id proto) (split_of spec.range))) protos
      of_protos [] = tt
      of_protos (proto ∷ protos) = (
        every-map IsSmallKey (port_key dir id proto) (split_of spec.range)
            (every-weaker IsSmallPort (λ port. IsSmallKey (port_key dir id proto port)) (λ port own. record { id = small; bits = own }) (split_of spec.range) (split_small spec.range)),
        of_protos protos,
      )

  specs_small : (specs : List PortSpec) → AllByRecursion IsSmallKey (flat_map (spec_keys dir id) specs)
  specs_small [] = tt
  specs_small (spec ∷ specs) = every-append IsSmallKey (spec_keys dir id spec) (flat_map (spec_keys dir id) specs) (spec_small spec) (specs_small specs)

  ports_small : (specs : List PortSpec) → AllByRecursion IsSmallKey (ports_keys dir id specs)
  ports_small [] = (every_small, tt)
  ports_small (spec ∷ specs) = specs_small (spec ∷ specs)

  of_kind : (kind : Kind) (keys : List MapKey) → AllByRecursion IsSmallKey keys → AreSmallEntries (map (λ key. (key, kind)) keys)
  of_kind kind keys own = every-map IsSmallEntry (λ key. (key, kind)) keys own

module _ (set : Peer → List ℕ) (small : (peer : Peer) → AllByRecursion IsSmall (set peer)) where
  peer_small : (p : Peer) (b : Bool) → AllByRecursion IsSmall (cond b (EVERY_IDENTITY ∷ []) (set p))
  peer_small p true = (omega arith, tt)
  peer_small p false = small p

  listed_small : (peers : List Peer) → AllByRecursion IsSmall (flat_map (peer_numbers set) peers)
  listed_small [] = tt
  listed_small (p ∷ peers) = every-append IsSmall (peer_numbers set p) (flat_map (peer_numbers set) peers) (peer_small p (is_all p)) (listed_small peers)

  peers_small : (peers : Peers) → AllByRecursion IsSmall (peers_numbers set peers)
  peers_small Every = (omega arith, tt)
  peers_small (Listed peers) = listed_small peers

  numbers_entries : (dir : Direction) (kind : Kind) (specs : List PortSpec) (ids : List ℕ) → AllByRecursion IsSmall ids
      → AreSmallEntries (flat_map (λ id. map (λ key. (key, kind)) (ports_keys dir id specs)) ids)
  numbers_entries dir kind specs [] own = tt
  numbers_entries dir kind specs (id ∷ ids) own =
      every-append IsSmallEntry (map (λ key. (key, kind)) (ports_keys dir id specs)) (flat_map (λ id. map (λ key. (key, kind)) (ports_keys dir id specs)) ids)
      (of_kind dir id own.0 kind (ports_keys dir id specs) (ports_small dir id own.0 specs)) (numbers_entries dir kind specs ids own.1)

  entry_small : (dir : Direction) (kind : Kind) (entry : Entry) (b : Bool)
      → AreSmallEntries (cond b (flat_map (λ id. map (λ key. (key, kind)) (ports_keys dir id entry.ports)) (peers_numbers set entry.peers)) [])
  entry_small dir kind entry true = numbers_entries dir kind entry.ports (peers_numbers set entry.peers) (peers_small entry.peers)
  entry_small dir kind entry false = tt

  entries_small : (dir : Direction) (kind : Kind) (entries : List Entry) → AreSmallEntries (flat_map (entry_entries set dir kind) entries)
  entries_small dir kind [] = tt
  entries_small dir kind (entry ∷ entries) =
      every-append IsSmallEntry (entry_entries set dir kind entry) (flat_map (entry_entries set dir kind) entries) (entry_small dir kind entry (has_effect entry))
      (entries_small dir kind entries)

  allow_small : (dir : Direction) (id : ℕ) → IsSmall id → AreSmallEntries (allow_every dir id ∷ [])
  allow_small dir id own = (every_small dir id own, tt)

  unenforced_small : (dir : Direction) (b : Bool) → AreSmallEntries (cond b [] (allow_every dir EVERY_IDENTITY ∷ []))
  unenforced_small dir true = tt
  unenforced_small dir false = allow_small dir EVERY_IDENTITY (omega arith)

  localhost_small : (dir : Direction) (b : Bool) → AreSmallEntries (cond b (allow_every dir HOST_IDENTITY ∷ []) [])
  localhost_small dir true = allow_small dir HOST_IDENTITY (omega arith)
  localhost_small dir false = tt

  direction_small : (parts : MapParts) (dir : Direction) → AreSmallEntries (direction_entries set parts dir)
  direction_small parts dir =
      let allows = flat_map (entry_entries set dir Allow) (parts.allows dir) in
      let denies = flat_map (entry_entries set dir Deny) (parts.denies dir) in
      every-append IsSmallEntry (allows ++ denies ++ unenforced_entries parts dir) (localhost_entries parts dir)
      (every-append IsSmallEntry (allows ++ denies) (unenforced_entries parts dir)
      (every-append IsSmallEntry allows denies (entries_small dir Allow (parts.allows dir)) (entries_small dir Deny (parts.denies dir)))
      (unenforced_small dir (parts.enforced dir)))
      (localhost_small dir (is_ingress dir && parts.localhost))

  raw_by : (parts : MapParts) (b : Bool)
      → AreSmallEntries (cond b (allow_every Ingress EVERY_IDENTITY ∷ allow_every Egress EVERY_IDENTITY ∷ []) (direction_entries set parts Ingress ++ direction_entries set parts Egress))
  raw_by parts true = (every_small Ingress EVERY_IDENTITY (omega arith), (every_small Egress EVERY_IDENTITY (omega arith), tt))
  raw_by parts false = every-append IsSmallEntry (direction_entries set parts Ingress) (direction_entries set parts Egress) (direction_small parts Ingress) (direction_small parts Egress)

  raw_small : (parts : MapParts) → AreSmallEntries (raw_entries set parts)
  raw_small parts = raw_by parts parts.never

-- ---- the canonical map

by_order : (o : Ordering) (a b c : List MapEntry) → AreSmallEntries a → AreSmallEntries b → AreSmallEntries c → AreSmallEntries (match_ordering o a b c)
by_order Less a b c p q r = p
by_order Equal a b c p q r = q
by_order Greater a b c p q r = r

put_small : (new : MapEntry) (entries : List MapEntry) → IsSmallEntry new → AreSmallEntries entries → AreSmallEntries (put_entry new entries)
put_small new [] own small = (own, tt)
put_small new (old ∷ others) own small =
    by_order (key_cmp new.0 old.0) (new ∷ old ∷ others) ((old.0, stronger new.1 old.1) ∷ others) (old ∷ put_entry new others) (own, small) (small.0, small.1)
    (small.0, put_small new others own small.1)

merged_small : (raw : List MapEntry) → AreSmallEntries raw → AreSmallEntries (merged raw)
merged_small [] small = tt
merged_small (entry ∷ others) small = put_small entry (merged others) small.0 (merged_small others small.1)

any_from : (entries : List MapEntry) → AllByRecursion (λ (entry : MapEntry). 0 ≤ place_of entry.0) entries
any_from [] = tt
any_from (entry ∷ others) = (omega arith, any_from others)

canonical_few : (raw : List MapEntry) → AreSmallEntries raw → length (canonical raw) < 2 ^ 64
canonical_few raw small =
    let few = few_from (canonical raw) 0 (omega arith) (canonical_ascends raw)
    (every-kept IsSmallEntry (λ (e : MapEntry). not (is_under_deny raw e)) (merged raw) (merged_small raw small)) (any_from (canonical raw)) in
    omega (arith, few)

rows_set : (rows : List IdentityRow) (p : Peer) → AreSmall rows → AllByRecursion IsSmall (set_at rows p)
rows_set rows p small = every-map IsSmall (λ (row : IdentityRow). row.number) (filter (selects_row p) rows) (every-kept IsSmallRow (selects_row p) rows small)

-- the map of an endpoint in a state of small numbers
pub map_few : (options : Options) (s : State) (endpoint : Endpoint) → IsSmallState s → map_size options s endpoint < 2 ^ 64
map_few options s endpoint small =
    canonical_few (raw_entries (set_at s.identities) (map_parts options s endpoint))
    (raw_small (set_at s.identities) (λ p. rows_set s.identities p small.rows) (map_parts options s endpoint))
