-- A filter gives a key where it has effect, its peers give entries for the key's number, and its ports give the key.
use Rattle.std.proofs.Common.{◌≡◌, ℕ, ◌+◌, ◌^◌, ◌<◌, ◌==◌, length, drop, find, get_or, arith, Bool, true, false, cond, ◌&&◌, ◌||◌, List, [], ◌∷◌, map, Option, Some, None, refl, sym, ◌∙◌, ap, subst}
use Rattle.std.specs.List.{flat_map, list_any, Contains}
use Rattle.std.proofs.lemmas.Bool.{both_ways, eq-eqb, false_from_ne_true, ne_eqb}
use Rattle.std.specs.Arc.{arc_value}
use Rattle.std.specs.Option.{option_map_or}
use Rattle.std.proofs.lemmas.List.{drop_more}
use Rattle.pol_sets.specs.declared.sets.SetRow.{SetRow}
use Rattle.pol_sets.specs.Sets.{is_row_of, set_given}
use Rattle.pol_ports.specs.declared.Direction.{Direction}
use Rattle.pol_ports.specs.declared.Direction.TheVariants.{Ingress, Egress}
use Rattle.pol_ports.specs.declared.PortPrefix.{PortPrefix}
use Rattle.pol_ports.specs.declared.PortRange.{PortRange}
use Rattle.pol_ports.specs.declared.Proto.{Proto}
use Rattle.pol_ports.specs.Direction.{same_direction}
use Rattle.pol_ports.specs.PortPrefix.{empty_prefix, same_prefix}
use Rattle.pol_ports.specs.Split.{is_part, split_of}
use Rattle.pol_ports.proofs.Same.{same_prefix-is, same_prefix-self}
use Rattle.pol_ports.proofs.SplitLaws.{split_parts}
use Rattle.pol_mapkey.specs.Entries.{Entry as MapEntry}
use Rattle.pol_mapkey.specs.KeyProto.{key_proto, same_key_proto}
use Rattle.pol_mapkey.specs.MapKey.{every_key, port_key, same_key}
use Rattle.pol_mapkey.specs.declared.KeyProto.{KeyProto}
use Rattle.pol_mapkey.specs.declared.KeyProto.TheVariants as own
use Rattle.pol_mapkey.specs.declared.Kind.TheVariants.{Allow}
use Rattle.pol_mapkey.specs.declared.MapKey.{MapKey}
use Rattle.pol_rule.specs.Covers.{has_effect}
use Rattle.pol_rule.specs.declared.policy.Peer.{Peer}
use Rattle.pol_rule.specs.declared.policy.Peers.{Peers}
use Rattle.pol_rule.specs.declared.policy.Peers.TheVariants.{Listed}
use Rattle.pol_rule.specs.declared.policy.PortSpec.{PortSpec}
use Rattle.pol_model.specs.PolicyMap.{peer_numbers, peers_numbers, ports_keys, protos_of, spec_keys}
use Rattle.pol_model_laws.proofs.Merged.{any_from, passing}
use Rattle.pol_filters.specs.declared.filter.Filter.{Filter}
use Rattle.pol_filters.specs.FilterParts.{entry_of}
use Rattle.pol_distill.proofs.AnyLemmas.{any_agree, any_and, any_flat_map, any_map}
use Rattle.pol_kept_map.specs.Givers.{gives, givers_in, givers_of}
use Rattle.pol_kept_map.specs.Work.{WorkOf}
use Rattle.pol_kept_map.specs.Giving.{ports_have, proto_fits, spec_has}

peers_any : (set : Peer → List ℕ) (id : ℕ) (peers : List Peer)
    → list_any (λ own. own == id) (flat_map (peer_numbers set) peers) ≡ list_any (λ p. list_any (λ own. own == id) (peer_numbers set p)) peers
peers_any set id peers = any_flat_map (λ own. own == id) (peer_numbers set) peers

-- a prefix is in the split of a range exactly where it is a part of it
pub in_split : (range : PortRange) (p : PortPrefix) → range.last < 2 ^ 16 → list_any (λ q. same_prefix q p) (split_of range) ≡ is_part range p
in_split range p small = by (is_part range p) refl
  where
    by : (b : Bool) → is_part range p ≡ b → list_any (λ q. same_prefix q p) (split_of range) ≡ b
    by true is = any_from (λ q. same_prefix q p) (split_of range) p ((split_parts range small p).1 is) (same_prefix-self p)
    by false is =
        false_from_ne_true (list_any (λ q. same_prefix q p) (split_of range)) (λ t.
        let one = passing (λ q. same_prefix q p) (split_of range) t in
        both_ways (is_part range p) is ((split_parts range small p).0 (subst (Contains (split_of range)) (same_prefix-is one.0 p one.2) one.1)))

-- Bools side by side
or_none : (a : Bool) → (a || false) ≡ a
or_none true = refl
or_none false = refl

and_swap : (a b : Bool) → (a && b) ≡ (b && a)
and_swap true true = refl
and_swap true false = refl
and_swap false true = refl
and_swap false false = refl

and_four : (a b c d : Bool) → (a && b && c && d) ≡ ((a && b) && (c && d))
and_four true true true true = refl
and_four true true true false = refl
and_four true true false true = refl
and_four true true false false = refl
and_four true false true true = refl
and_four true false true false = refl
and_four true false false true = refl
and_four true false false false = refl
and_four false true true true = refl
and_four false true true false = refl
and_four false true false true = refl
and_four false true false false = refl
and_four false false true true = refl
and_four false false true false = refl
and_four false false false true = refl
and_four false false false false = refl

and_own : (a b c d : Bool) → ((a && b && c && d) || false) ≡ ((a && b) && (true && true && c && d))
and_own true true true true = refl
and_own true true true false = refl
and_own true true false true = refl
and_own true true false false = refl
and_own true false true true = refl
and_own true false true false = refl
and_own true false false true = refl
and_own true false false false = refl
and_own false true true true = refl
and_own false true true false = refl
and_own false true false true = refl
and_own false true false false = refl
and_own false false true true = refl
and_own false false true false = refl
and_own false false false true = refl
and_own false false false false = refl

and_behind : (s i p : Bool) → ((s && i) && p) ≡ ((s && p) && i)
and_behind true true true = refl
and_behind true true false = refl
and_behind true false true = refl
and_behind true false false = refl
and_behind false true true = refl
and_behind false true false = refl
and_behind false false true = refl
and_behind false false false = refl

and_last : (e s p n : Bool) → (e && ((s && p) && n)) ≡ (s && e && n && p)
and_last true true true true = refl
and_last true true true false = refl
and_last true true false true = refl
and_last true true false false = refl
and_last true false true true = refl
and_last true false true false = refl
and_last true false false true = refl
and_last true false false false = refl
and_last false true true true = refl
and_last false true true false = refl
and_last false true false true = refl
and_last false true false false = refl
and_last false false true true = refl
and_last false false true false = refl
and_last false false false true = refl
and_last false false false false = refl

dir_self : (dir : Direction) → same_direction dir dir ≡ true
dir_self Ingress = refl
dir_self Egress = refl

protos_any : (proto : Option Proto) (k : KeyProto) → list_any (λ p. same_key_proto (key_proto p) k) (protos_of proto) ≡ proto_fits proto k
protos_any None own.Every = refl
protos_any None own.Tcp = refl
protos_any None own.Udp = refl
protos_any None own.Sctp = refl
protos_any (Some proto) k = or_none (same_key_proto (key_proto proto) k)

module _ (key : MapKey) (dir : Direction) (id : ℕ) where
  abbrev near : Bool
  near = same_direction dir key.dir && (id == key.id)

  -- the keys of a port
  spec_any : (spec : PortSpec) → list_any (λ k. same_key k key) (spec_keys dir id spec) ≡ (near && spec_has key spec)
  spec_any spec =
      let parts = split_of spec.range in
      let protos = protos_of spec.proto in
      let fits = λ (proto : Proto). same_key_proto (key_proto proto) key.proto in
      let own = λ (q : PortPrefix). same_prefix q key.port in
      let there = list_any own parts in
      any_flat_map (λ k. same_key k key) (λ proto. map (port_key dir id proto) parts) protos
      ∙ any_agree (λ proto. list_any (λ k. same_key k key) (map (port_key dir id proto) parts)) (λ proto. near && (there && fits proto))
      (λ proto. any_map (λ k. same_key k key) (port_key dir id proto) parts
      ∙ any_agree (λ q. same_key (port_key dir id proto q) key) (λ q. near && (fits proto && own q)) (λ q. and_four (same_direction dir key.dir) (id == key.id) (fits proto) (own q)) parts
      ∙ any_and near (λ q. fits proto && own q) parts
      ∙ ap (λ b. near && b) (any_and (fits proto) own parts ∙ and_swap (fits proto) there)) protos
      ∙ any_and near (λ proto. there && fits proto) protos
      ∙ ap (λ b. near && b) (any_and there fits protos ∙ and_swap there (list_any fits protos) ∙ ap (λ b. b && there) (protos_any spec.proto key.proto))

  -- the keys of ports
  ports_any : (ports : List PortSpec) → list_any (λ k. same_key k key) (ports_keys dir id ports) ≡ (near && ports_have key ports)
  ports_any [] =
      let same = same_key_proto own.Every key.proto in
      let at = same_prefix empty_prefix key.port in
      and_own (same_direction dir key.dir) (id == key.id) same at
      ∙ (λ i. near && (sym (dir_self key.dir) i && sym (eq-eqb key.id key.id refl) i && same && at))
  ports_any (spec ∷ specs) =
      any_flat_map (λ k. same_key k key) (spec_keys dir id) (spec ∷ specs)
      ∙ any_agree (λ one. list_any (λ k. same_key k key) (spec_keys dir id one)) (λ one. near && spec_has key one) spec_any (spec ∷ specs)
      ∙ any_and near (spec_has key) (spec ∷ specs)

by_effect : (b : Bool) (test : MapEntry → Bool) (entries : List MapEntry) → list_any test (cond b entries []) ≡ (b && list_any test entries)
by_effect true test entries = refl
by_effect false test entries = refl

pub gives_is : (set : Peer → List ℕ) (dir : Direction) (key : MapKey) (one : Filter)
    → gives set dir key one ≡ (same_direction dir key.dir && has_effect (entry_of one) && list_any (λ own. own == key.id) (peers_numbers set one.peers) && ports_have key one.ports)
gives_is set dir key one =
    let test = λ (e : MapEntry). same_key e.0 key in
    let numbers = peers_numbers set one.peers in
    let made = λ (id : ℕ). map (λ k. (k, Allow)) (ports_keys dir id one.ports) in
    let sd = same_direction dir key.dir in
    let have = ports_have key one.ports in
    by_effect (has_effect (entry_of one)) test (flat_map made numbers)
    ∙ ap (λ b. has_effect (entry_of one) && b) (any_flat_map test made numbers
    ∙ any_agree (λ id. list_any test (made id)) (λ id. (sd && have) && (id == key.id))
    (λ id. any_map test (λ k. (k, Allow)) (ports_keys dir id one.ports) ∙ ports_any key dir id one.ports ∙ and_behind sd (id == key.id) have) numbers
    ∙ any_and (sd && have) (λ id. id == key.id) numbers)
    ∙ and_last (has_effect (entry_of one)) sd have (list_any (λ own. own == key.id) numbers)

pub have_or_every : (key : MapKey) (ports : List PortSpec) → ports_have key ports ≡ cond (length ports == 0) (same_key (every_key key.dir key.id) key) (list_any (spec_has key) ports)
have_or_every key [] = refl
have_or_every key (spec ∷ specs) =
    sym (ap (λ b. cond b (same_key (every_key key.dir key.id) key) (list_any (spec_has key) (spec ∷ specs))) (ne_eqb (length (spec ∷ specs)) 0 (λ e. absurd (omega arith))))

-- of rows from a place on, the first decides if it is the peer's, and else those behind it
pub first_row : (rows : List SetRow) (p : Peer) (i : ℕ) (d : SetRow) → i < length rows → is_row_of p (get_or rows i d) ≡ true → set_given (drop i rows) p ≡ arc_value (get_or rows i d).set
first_row rows p i d within is =
    ap (λ rs. set_given rs p) (drop_more rows i d within) ∙ ap (λ b. option_map_or (λ (row : SetRow). arc_value row.set) (cond b (Some (get_or rows i d)) (find (is_row_of p) (drop (i + 1) rows))) []) is

pub later_row : (rows : List SetRow) (p : Peer) (i : ℕ) (d : SetRow) → i < length rows → is_row_of p (get_or rows i d) ≡ false → set_given (drop i rows) p ≡ set_given (drop (i + 1) rows) p
later_row rows p i d within is =
    ap (λ rs. set_given rs p) (drop_more rows i d within) ∙ ap (λ b. option_map_or (λ (row : SetRow). arc_value row.set) (cond b (Some (get_or rows i d)) (find (is_row_of p) (drop (i + 1) rows))) []) is

pub givers_are : (test : Filter → Bool) (work : WorkOf) (key : MapKey) (a b : ℕ) → work.filters.never ≡ false → a ≡ givers_in test work key Ingress → b ≡ givers_in test work key Egress → a + b ≡ givers_of test work key
givers_are test work key a b none one two =
    (λ i. one i + two i) ∙ sym (ap (λ t. cond t 0 (givers_in test work key Ingress + givers_in test work key Egress)) none)

pub listed_any : (set : Peer → List ℕ) (id : ℕ) (peers : Peers) (list slice : List Peer) → peers ≡ Listed list → slice ≡ list → (b : Bool)
    → b ≡ list_any (λ p. list_any (λ own. own == id) (peer_numbers set p)) slice → b ≡ list_any (λ own. own == id) (peers_numbers set peers)
listed_any set id peers list slice is same b has =
    has ∙ ap (λ ps. list_any (λ p. list_any (λ own. own == id) (peer_numbers set p)) ps) same ∙ sym (peers_any set id list)
    ∙ sym (ap (λ ps. list_any (λ own. own == id) (peers_numbers set ps)) is)
