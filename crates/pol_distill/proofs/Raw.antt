-- Which raw entries lie on a packet.
use Rattle.std.proofs.Common.{◌≡◌, ℕ, ◌<◌, ◌^◌, Bool, true, false, not, cond, ◌&&◌, ◌||◌, List, [], ◌∷◌, ◌++◌, map, Option, Some, None, refl, sym, ◌∙◌, ap, arith}
use Rattle.std.proofs.lemmas.Bool.{and_from, cond-true, cond-false, le-leb, lt-ltb}
use Rattle.std.proofs.lemmas.List.Folds.{list_any-append}
use Rattle.std.specs.List.{list_any, flat_map}
use Rattle.pol_ports.specs.Direction.{same_direction}
use Rattle.pol_ports.specs.PortPrefix.{empty_prefix, prefix_holds}
use Rattle.pol_ports.specs.PortRange.{holds}
use Rattle.pol_ports.specs.Proto.{same_proto}
use Rattle.pol_ports.specs.Split.{split_of}
use Rattle.pol_ports.specs.declared.Direction.{Direction}
use Rattle.pol_ports.specs.declared.Direction.TheVariants.{Ingress, Egress}
use Rattle.pol_ports.specs.declared.Proto.{Proto}
use Rattle.pol_ports.specs.declared.Proto.TheVariants.{Tcp, Udp, Sctp}
use Rattle.pol_ports.proofs.SplitLaws.{split_covers}
use Rattle.pol_mapkey.specs.KeyProto.{key_proto, proto_covers}
use Rattle.pol_mapkey.specs.MapKey.{every_key, port_key, covers_packet}
use Rattle.pol_mapkey.specs.Entries.{Entry as MapEntry, is_deny}
use Rattle.pol_mapkey.specs.declared.Kind.{Kind}
use Rattle.pol_mapkey.specs.declared.Kind.TheVariants.{Allow, Deny}
use Rattle.pol_mapkey.specs.declared.MapKey.{MapKey}
use Rattle.pol_rule.specs.Covers.{takes_proto, port_covers, ports_cover, has_effect, peers_take, entry_covers}
use Rattle.pol_rule.specs.declared.policy.Entry.{Entry}
use Rattle.pol_rule.specs.declared.policy.Peer.{Peer}
use Rattle.pol_rule.specs.declared.policy.Peers.{Peers}
use Rattle.pol_rule.specs.declared.policy.Peers.TheVariants.{Every, Listed}
use Rattle.pol_rule.specs.declared.policy.PortSpec.{PortSpec}
use Rattle.pol_model.specs.PolicyMap.{MapParts, protos_of, spec_keys, ports_keys, peer_numbers, peers_numbers, entry_entries, allow_every, unenforced_entries, localhost_entries, direction_entries, raw_entries}
use Rattle.pol_model.specs.Verdict.{is_ingress}
use Rattle.pol_distill.proofs.AnyLemmas.{any_agree, any_flat_map, any_map, any_and}

or_false : (a : Bool) → (a || false) ≡ a
or_false true = refl
or_false false = refl

pub and_true : (a : Bool) → (a && true) ≡ a
and_true true = refl
and_true false = refl

protos_cover : (a b : Proto) → proto_covers (key_proto a) (key_proto b) ≡ same_proto a b
protos_cover Tcp Tcp = refl
protos_cover Tcp Udp = refl
protos_cover Tcp Sctp = refl
protos_cover Udp Tcp = refl
protos_cover Udp Udp = refl
protos_cover Udp Sctp = refl
protos_cover Sctp Tcp = refl
protos_cover Sctp Udp = refl
protos_cover Sctp Sctp = refl

protos_take : (proto : Proto) (own : Option Proto) → list_any (λ a. same_proto a proto) (protos_of own) ≡ takes_proto own proto
protos_take Tcp None = refl
protos_take Udp None = refl
protos_take Sctp None = refl
protos_take proto (Some own) = or_false (same_proto own proto)

-- tests in another order
holds_last : (x s p h : Bool) → (x && (s && p && h)) ≡ (x && (s && p) && h)
holds_last true s p h = refl
holds_last false s p h = refl

proto_last : (x s p h : Bool) → (x && (s && p) && h) ≡ (x && s && h && p)
proto_last false s p h = refl
proto_last true false p h = refl
proto_last true true true h = sym (and_true h)
proto_last true true false true = refl
proto_last true true false false = refl

proto_first : (x s h p : Bool) → (x && s && h && p) ≡ (x && s && (p && h))
proto_first false s h p = refl
proto_first true false h p = refl
proto_first true true true p = sym (and_true p)
proto_first true true false true = refl
proto_first true true false false = refl

pub and_false : (a : Bool) → (a && false) ≡ false
and_false true = refl
and_false false = refl

number_last : (k x s p : Bool) → (k && (x && s && p)) ≡ (k && s && p && x)
number_last false x s p = refl
number_last true true s p = sym (and_true (s && p))
number_last true false s p = sym (and_false (s && p))

swapped : (k x s : Bool) → (k && (x && s)) ≡ (k && s && x)
swapped false x s = refl
swapped true true s = sym (and_true s)
swapped true false s = sym (and_false s)

of_direction : (on : Direction → Bool) (dir : Direction) → (same_direction Ingress dir && on Ingress || same_direction Egress dir && on Egress) ≡ on dir
of_direction on Ingress = or_false (on Ingress)
of_direction on Egress = refl

joined : (s a u l : Bool) → (s && a || false || s && u || s && l) ≡ (s && (a || u || l))
joined true a u l = ap (λ b. b || u || l) (or_false a)
joined false a u l = refl

module _ (dir : Direction) (proto : Proto) (port : ℕ) (small : port < 2 ^ 16) (pass : ℕ → Bool) where
  -- the key is of a number that passes, and covers the packet
  abbrev pub lies : MapKey → Bool
  lies key = pass key.id && covers_packet key dir proto port

  prefixes_lie : (d : Direction) (id : ℕ) (spec : PortSpec) (own : Proto)
      → list_any lies (map (port_key d id own) (split_of spec.range)) ≡ (pass id && same_direction d dir && holds spec.range port && same_proto own proto)
  prefixes_lie d id spec own =
      let over = proto_covers (key_proto own) (key_proto proto) in
      any_map lies (port_key d id own) (split_of spec.range)
      ∙ any_agree (λ part. lies (port_key d id own part)) (λ part. pass id && (same_direction d dir && over) && prefix_holds part port)
      (λ part. holds_last (pass id) (same_direction d dir) over (prefix_holds part port)) (split_of spec.range)
      ∙ any_and (pass id && (same_direction d dir && over)) (λ part. prefix_holds part port) (split_of spec.range)
      ∙ ap (λ b. pass id && (same_direction d dir && over) && b) (split_covers spec.range port small)
      ∙ proto_last (pass id) (same_direction d dir) over (holds spec.range port)
      ∙ ap (λ b. pass id && same_direction d dir && holds spec.range port && b) (protos_cover own proto)

  spec_lies : (d : Direction) (id : ℕ) (spec : PortSpec) → list_any lies (spec_keys d id spec) ≡ (pass id && same_direction d dir && port_covers proto port spec)
  spec_lies d id spec =
      any_flat_map lies (λ own. map (port_key d id own) (split_of spec.range)) (protos_of spec.proto)
      ∙ any_agree _ (λ own. pass id && same_direction d dir && holds spec.range port && same_proto own proto) (prefixes_lie d id spec) (protos_of spec.proto)
      ∙ any_and (pass id && same_direction d dir && holds spec.range port) (λ own. same_proto own proto) (protos_of spec.proto)
      ∙ ap (λ b. pass id && same_direction d dir && holds spec.range port && b) (protos_take proto spec.proto)
      ∙ proto_first (pass id) (same_direction d dir) (holds spec.range port) (takes_proto spec.proto proto)

  every_lies : (d : Direction) (id : ℕ) → lies (every_key d id) ≡ (pass id && same_direction d dir)
  every_lies d id =
      let all : prefix_holds empty_prefix port ≡ true = and_from _ _ (le-leb empty_prefix.bits port (omega arith)) (lt-ltb port 65536 small) in
      ap (λ b. pass id && (same_direction d dir && true && b)) all
      ∙ ap (λ b. pass id && b) (and_true (same_direction d dir && true) ∙ and_true (same_direction d dir))

  ports_lie : (d : Direction) (id : ℕ) (ports : List PortSpec) → list_any lies (ports_keys d id ports) ≡ (pass id && same_direction d dir && ports_cover proto port ports)
  ports_lie d id [] = or_false (lies (every_key d id)) ∙ every_lies d id ∙ sym (and_true (pass id && same_direction d dir))
  ports_lie d id (spec ∷ specs) =
      any_flat_map lies (spec_keys d id) (spec ∷ specs)
      ∙ any_agree _ (λ one. pass id && same_direction d dir && port_covers proto port one) (spec_lies d id) (spec ∷ specs)
      ∙ any_and (pass id && same_direction d dir) (port_covers proto port) (spec ∷ specs)

  -- what lies on the packet, of the kinds that are asked for
  module _ (kinds : Kind → Bool) (set : Peer → List ℕ) (takes : Peer → Bool) (zero_passes : pass 0 ≡ true)
      (taken : (p : Peer) → list_any pass (peer_numbers set p) ≡ takes p) where
    abbrev pub lies_of : MapEntry → Bool
    lies_of e = kinds e.1 && lies e.0

    peers_lie : (peers : Peers) → list_any pass (peers_numbers set peers) ≡ peers_take takes peers
    peers_lie Every = or_false (pass 0) ∙ zero_passes
    peers_lie (Listed peers) = any_flat_map pass (peer_numbers set) peers ∙ any_agree _ takes taken peers

    entry_lies : (d : Direction) (kind : Kind) (entry : Entry)
        → list_any lies_of (entry_entries set d kind entry) ≡ (kinds kind && same_direction d dir && entry_covers takes proto port entry)
    entry_lies d kind entry = by_effect (has_effect entry)
      where
        number_lies : (id : ℕ) → list_any lies_of (map (λ key. (key, kind)) (ports_keys d id entry.ports))
            ≡ (kinds kind && same_direction d dir && ports_cover proto port entry.ports && pass id)
        number_lies id =
            any_map lies_of (λ key. (key, kind)) (ports_keys d id entry.ports)
            ∙ any_and (kinds kind) lies (ports_keys d id entry.ports)
            ∙ ap (λ b. kinds kind && b) (ports_lie d id entry.ports)
            ∙ number_last (kinds kind) (pass id) (same_direction d dir) (ports_cover proto port entry.ports)

        numbers_lie : list_any lies_of (flat_map (λ id. map (λ key. (key, kind)) (ports_keys d id entry.ports)) (peers_numbers set entry.peers))
            ≡ (kinds kind && same_direction d dir && (peers_take takes entry.peers && ports_cover proto port entry.ports))
        numbers_lie =
            any_flat_map lies_of (λ id. map (λ key. (key, kind)) (ports_keys d id entry.ports)) (peers_numbers set entry.peers)
            ∙ any_agree _ (λ id. kinds kind && same_direction d dir && ports_cover proto port entry.ports && pass id) number_lies (peers_numbers set entry.peers)
            ∙ any_and (kinds kind && same_direction d dir && ports_cover proto port entry.ports) pass (peers_numbers set entry.peers)
            ∙ ap (λ b. kinds kind && same_direction d dir && ports_cover proto port entry.ports && b) (peers_lie entry.peers)
            ∙ proto_first (kinds kind) (same_direction d dir) (ports_cover proto port entry.ports) (peers_take takes entry.peers)

        by_effect : (b : Bool)
            → list_any lies_of (cond b (flat_map (λ id. map (λ key. (key, kind)) (ports_keys d id entry.ports)) (peers_numbers set entry.peers)) [])
            ≡ (kinds kind && same_direction d dir && (b && peers_take takes entry.peers && ports_cover proto port entry.ports))
        by_effect false = sym (and_false (kinds kind && same_direction d dir))
        by_effect true = numbers_lie

    entries_lie : (d : Direction) (kind : Kind) (entries : List Entry) → list_any lies_of (flat_map (entry_entries set d kind) entries)
        ≡ (kinds kind && same_direction d dir && list_any (entry_covers takes proto port) entries)
    entries_lie d kind entries =
        any_flat_map lies_of (entry_entries set d kind) entries
        ∙ any_agree _ (λ entry. kinds kind && same_direction d dir && entry_covers takes proto port entry) (entry_lies d kind) entries
        ∙ any_and (kinds kind && same_direction d dir) (entry_covers takes proto port) entries

    unenforced_lie : (parts : MapParts) (d : Direction) → list_any lies_of (unenforced_entries parts d)
        ≡ (kinds Allow && same_direction d dir && not (parts.enforced d))
    unenforced_lie parts d = by_enforced (parts.enforced d)
      where
        by_enforced : (b : Bool) → list_any lies_of (cond b [] (allow_every d 0 ∷ [])) ≡ (kinds Allow && same_direction d dir && not b)
        by_enforced true = sym (and_false (kinds Allow && same_direction d dir))
        by_enforced false =
            or_false (kinds Allow && lies (every_key d 0))
            ∙ ap (λ b. kinds Allow && b) (every_lies d 0 ∙ ap (λ b. b && same_direction d dir) zero_passes)
            ∙ sym (and_true (kinds Allow && same_direction d dir))

    localhost_lie : (parts : MapParts) (d : Direction) → list_any lies_of (localhost_entries parts d)
        ≡ (kinds Allow && same_direction d dir && (is_ingress d && parts.localhost && pass 1))
    localhost_lie parts d = by_localhost (is_ingress d && parts.localhost)
      where
        by_localhost : (b : Bool) → list_any lies_of (cond b (allow_every d 1 ∷ []) []) ≡ (kinds Allow && same_direction d dir && (b && pass 1))
        by_localhost false = sym (and_false (kinds Allow && same_direction d dir))
        by_localhost true =
            or_false (kinds Allow && lies (every_key d 1))
            ∙ ap (λ b. kinds Allow && b) (every_lies d 1)
            ∙ swapped (kinds Allow) (pass 1) (same_direction d dir)

    direction_lies : (parts : MapParts) (d : Direction) → list_any lies_of (direction_entries set parts d)
        ≡ ((kinds Allow && same_direction d dir && list_any (entry_covers takes proto port) (parts.allows d))
        || (kinds Deny && same_direction d dir && list_any (entry_covers takes proto port) (parts.denies d))
        || (kinds Allow && same_direction d dir && not (parts.enforced d))
        || (kinds Allow && same_direction d dir && (is_ingress d && parts.localhost && pass 1)))
    direction_lies parts d =
        let allows = flat_map (entry_entries set d Allow) (parts.allows d) in
        let denies = flat_map (entry_entries set d Deny) (parts.denies d) in
        let open' = unenforced_entries parts d in
        let local = localhost_entries parts d in
        let first = list_any-append lies_of allows denies in
        let second = list_any-append lies_of (allows ++ denies) open' in
        let third = list_any-append lies_of (allows ++ denies ++ open') local in
        third
        ∙ ap (λ b. b || list_any lies_of local) (second ∙ ap (λ b. b || list_any lies_of open') first)
        ∙ (λ i. entries_lie d Allow (parts.allows d) i || entries_lie d Deny (parts.denies d) i || unenforced_lie parts d i || localhost_lie parts d i)

    raw_lies : (parts : MapParts) → parts.never ≡ false → list_any lies_of (raw_entries set parts)
        ≡ (list_any lies_of (direction_entries set parts Ingress) || list_any lies_of (direction_entries set parts Egress))
    raw_lies parts some =
        ap (list_any lies_of) (cond-false parts.never (allow_every Ingress 0 ∷ allow_every Egress 0 ∷ []) _ some)
        ∙ list_any-append lies_of (direction_entries set parts Ingress) (direction_entries set parts Egress)

    pub never_lies : (parts : MapParts) → parts.never ≡ true → list_any lies_of (raw_entries set parts) ≡ kinds Allow
    never_lies parts never =
        ap (list_any lies_of) (cond-true parts.never (allow_every Ingress 0 ∷ allow_every Egress 0 ∷ []) _ never)
        ∙ ap (λ b. kinds Allow && lies (every_key Ingress 0) || b) (or_false (kinds Allow && lies (every_key Egress 0)))
        ∙ (λ i. kinds Allow && every_zero Ingress i || kinds Allow && every_zero Egress i)
        ∙ one_of (kinds Allow) dir
      where
        every_zero : (d : Direction) → lies (every_key d 0) ≡ same_direction d dir
        every_zero d = every_lies d 0 ∙ ap (λ b. b && same_direction d dir) zero_passes

        one_of : (b : Bool) (dir : Direction) → (b && same_direction Ingress dir || b && same_direction Egress dir) ≡ b
        one_of true Ingress = refl
        one_of true Egress = refl
        one_of false dir = refl

  module _ (set : Peer → List ℕ) (takes : Peer → Bool) (zero_passes : pass 0 ≡ true)
      (taken : (p : Peer) → list_any pass (peer_numbers set p) ≡ takes p) (parts : MapParts) (some : parts.never ≡ false) where
    -- a raw deny lies on the packet exactly where a denying entry covers it
    pub raw_denies : list_any (lies_of is_deny set takes zero_passes taken) (raw_entries set parts) ≡ list_any (entry_covers takes proto port) (parts.denies dir)
    raw_denies =
        raw_lies is_deny set takes zero_passes taken parts some
        ∙ (λ i. denies_in Ingress i || denies_in Egress i)
        ∙ of_direction (λ d. list_any (entry_covers takes proto port) (parts.denies d)) dir
      where
        denies_in : (d : Direction) → list_any (lies_of is_deny set takes zero_passes taken) (direction_entries set parts d)
            ≡ (same_direction d dir && list_any (entry_covers takes proto port) (parts.denies d))
        denies_in d =
            direction_lies is_deny set takes zero_passes taken parts d
            ∙ or_false _
            ∙ or_false (same_direction d dir && list_any (entry_covers takes proto port) (parts.denies d))

    -- and a raw allow does where an allowing entry covers it, or all that comes or goes is allowed
    pub raw_allows : list_any (lies_of (λ kind. not (is_deny kind)) set takes zero_passes taken) (raw_entries set parts)
        ≡ (list_any (entry_covers takes proto port) (parts.allows dir) || not (parts.enforced dir) || (is_ingress dir && parts.localhost && pass 1))
    raw_allows =
        raw_lies (λ kind. not (is_deny kind)) set takes zero_passes taken parts some
        ∙ (λ i. allows_in Ingress i || allows_in Egress i)
        ∙ of_direction allowed dir
      where
        allowed : Direction → Bool
        allowed d = list_any (entry_covers takes proto port) (parts.allows d) || not (parts.enforced d) || (is_ingress d && parts.localhost && pass 1)

        allows_in : (d : Direction) → list_any (lies_of (λ kind. not (is_deny kind)) set takes zero_passes taken) (direction_entries set parts d)
            ≡ (same_direction d dir && allowed d)
        allows_in d =
            direction_lies (λ kind. not (is_deny kind)) set takes zero_passes taken parts d
            ∙ joined (same_direction d dir) (list_any (entry_covers takes proto port) (parts.allows d)) (not (parts.enforced d))
            (is_ingress d && parts.localhost && pass 1)
