-- The keys that can reach a packet, from the longest on, and which of them is the longest in a table.
use Rattle.std.proofs.Common.{◌≡◌, ℕ, ◌-◌, ◌*◌, ◌/◌, ◌%◌, ◌<◌, ◌≤◌, ◌^◌, true, ◌==◌, List, Option, Some, None, option_map, min, ◌⊎◌, inl, inr, refl, sym, ◌∙◌, ap, subst, arith}
use Rattle.std.proofs.lemmas.Bool.{and_from, and_parts, cases_lt, eq-eqb, eqb-true, false_from_ne_true}
use Rattle.std.proofs.lemmas.Nat.{pow_pos}
use Rattle.std.proofs.Math.Nat.{mul-mod_left}
use Rattle.std.specs.List.{Contains}
use Rattle.pol_ports.specs.PortPrefix.{prefix_at, prefix_holds}
use Rattle.pol_ports.specs.declared.Direction.{Direction}
use Rattle.pol_ports.specs.declared.PortPrefix.{PortPrefix}
use Rattle.pol_ports.specs.declared.Proto.{Proto}
use Rattle.pol_ports.proofs.Blocks.{floor_is, prefix_same, shorter_contains}
use Rattle.pol_ports.proofs.Containing.{contains_from, empty_contains, holds_from, holds_is}
use Rattle.pol_ports.proofs.Least.{prefix_at-holds}
use Rattle.pol_mapkey.specs.Entries.{Entry, longest, reaches}
use Rattle.pol_mapkey.specs.KeyProto.{key_proto}
use Rattle.pol_mapkey.specs.MapKey.{covers, covers_packet, every_key, port_key}
use Rattle.pol_mapkey.specs.declared.Kind.{Kind}
use Rattle.pol_mapkey.specs.declared.MapKey.{MapKey}
use Rattle.pol_mapkey.proofs.Keys.{covers-self, covers_from, key_same, packet_from, packet_is, proto_covers-cases, proto_covers-self}
use Rattle.pol_mapkey.proofs.Longest.{longest_is, longest_none, one_kind}
use Rattle.pol_model_laws.proofs.Merged.{each_once}
use Rattle.pol_distill.specs.Sorted.{IsKindOf, IsTable}
use Rattle.pol_distill.proofs.RawLists.{every_key_is}

at_most : (len : ℕ) → len ≤ 16 → min len 16 ≡ len
at_most len le = omega (arith, le)

pub floor_clear : (n m : ℕ) → n / m * m % m ≡ 0
floor_clear n m = mul-mod_left (n / m) m

-- a prefix with these fields is the one of that length that has the port
pub prefix_made : (port len : ℕ) (p : PortPrefix) → len ≤ 16 → p.bits ≡ port / 2 ^ (16 - len) * 2 ^ (16 - len) → p.len ≡ len → p ≡ prefix_at port len
prefix_made port len p most bits same =
    let least = at_most len most in
    prefix_same p (prefix_at port len) (bits ∙ ap (λ n. port / 2 ^ (16 - n) * 2 ^ (16 - n)) (sym least)) (same ∙ sym least)

-- a prefix that has the port is the one of its length
prefix_is : (p : PortPrefix) (port : ℕ) → prefix_holds p port ≡ true → p ≡ prefix_at port p.len
prefix_is p port holds =
    let inside = holds_is p port holds in
    let len = at_most p.len p.short in
    let bits : port / 2 ^ (16 - p.len) * 2 ^ (16 - p.len) ≡ p.bits =
    floor_is port (2 ^ (16 - p.len)) p.bits (pow_pos (16 - p.len)) p.clear inside.0 inside.1 in
    prefix_same p (prefix_at port p.len) (sym bits ∙ ap (λ n. port / 2 ^ (16 - n) * 2 ^ (16 - n)) (sym len)) (sym len)

module _ (dir : Direction) (id : ℕ) (proto : Proto) (port : ℕ) where
  -- the key of the prefix of that length that has the port
  abbrev pub key_at : ℕ → MapKey
  key_at len = port_key dir id proto (prefix_at port len)

  key_at-holds : (len : ℕ) → prefix_holds (prefix_at port len) port ≡ true
  key_at-holds len = let in' = prefix_at-holds port len in holds_from (prefix_at port len) port in'.0 in'.1

  key_at-reaches : (len : ℕ) (kind : Kind) → reaches dir id proto port (key_at len, kind) ≡ true
  key_at-reaches len kind =
      and_from (id == id) (covers_packet (key_at len) dir proto port) (eq-eqb id id refl)
      (packet_from (key_at len) dir proto port refl (proto_covers-self (key_proto proto)) (key_at-holds len))

  -- a shorter prefix covers a longer one
  key_at-covers : (n m : ℕ) → n ≤ m → m ≤ 16 → covers (key_at n) (key_at m) ≡ true
  key_at-covers n m le most =
      let a = prefix_at-holds port n in
      let b = prefix_at-holds port m in
      let n_len = at_most n (omega (arith, le, most)) in
      let m_len = at_most m most in
      let e = shorter_contains (prefix_at port n) (prefix_at port m) (omega (arith, n_len, m_len, le)) (omega (arith, a.0, b.1)) (omega (arith, b.0, a.1)) in
      covers_from (key_at n) (key_at m) refl refl (proto_covers-self (key_proto proto)) (contains_from (prefix_at port n) (prefix_at port m) e.0 e.1)

  module _ (small : port < 2 ^ 16) where
    every_holds : prefix_holds (every_key dir id).port port ≡ true
    every_holds = holds_from (every_key dir id).port port (omega arith) small

    every_reaches : (kind : Kind) → reaches dir id proto port (every_key dir id, kind) ≡ true
    every_reaches kind =
        and_from (id == id) (covers_packet (every_key dir id) dir proto port) (eq-eqb id id refl)
        (packet_from (every_key dir id) dir proto port refl refl every_holds)

    every_covers : (n : ℕ) → covers (every_key dir id) (key_at n) ≡ true
    every_covers n =
        covers_from (every_key dir id) (key_at n) refl refl refl
        (empty_contains (every_key dir id).port (prefix_at port n) port refl every_holds (key_at-holds n))

    -- which keys reach the packet
    reaching_key : (e : Entry) → reaches dir id proto port e ≡ true → (e.0 ≡ every_key dir id) ⊎ ((e.0.port.len ≤ 16) × (e.0 ≡ key_at e.0.port.len))
    reaching_key e t =
        let both = and_parts (e.0.id == id) (covers_packet e.0 dir proto port) t in
        let ids = eqb-true e.0.id id both.0 in
        let is = packet_is e.0 dir proto port both.1 in
        elim (proto_covers-cases e.0.proto (key_proto proto) is.1) [
          | inl every ↦
              (let len = e.0.every_port every in
              let prefix = prefix_is e.0.port port is.2 in
              let bits : e.0.port.bits ≡ 0 = ap (λ (p : PortPrefix). p.bits) (prefix ∙ ap (prefix_at port) len) ∙ first_bits in
              inl (every_key_is dir id e.0 is.0 ids every bits len))
          | inr own ↦ inr (e.0.port.short, key_same e.0 (key_at e.0.port.len) is.0 ids own (prefix_is e.0.port port is.2))
        ]
      where
        first_bits : (prefix_at port 0).bits ≡ 0
        first_bits = floor_is port 65536 0 (omega arith) refl (omega arith) (omega (arith, small))

    module _ (table : List Entry) (up : IsTable table) where
      -- no entry has a longer key than those of that length
      abbrev pub NoneLonger : ℕ → Type 0
      NoneLonger n = (m : ℕ) (kind : Kind) → m ≤ 16 → n < m → Contains table (key_at m, kind) → ⊥

      pub found_at : (n : ℕ) (kind : Kind) → n ≤ 16 → NoneLonger n → Contains table (key_at n, kind) → longest table dir id proto port ≡ Some (key_at n, kind)
      found_at n kind le none has =
          longest_is dir id proto port table (key_at n, kind) (one_kind table (each_once table up)) (
            has,
            key_at-reaches n kind,
            λ f in' t.
                elim (reaching_key f t) [
                  | inl every ↦ (let Covers : MapKey → Type 0 = λ k. covers k (key_at n) ≡ true in subst Covers (sym every) (every_covers n))
                  | inr own ↦ elim (cases_lt n f.0.port.len) [
                    | inl longer ↦ absurd (none f.0.port.len f.1 own.0 longer (subst (Contains table) (λ i. (own.1 i, f.1)) in'))
                    | inr shorter ↦ (let Covers : MapKey → Type 0 = λ k. covers k (key_at n) ≡ true in subst Covers (sym own.1) (key_at-covers f.0.port.len n shorter le))
                  ]
                ],
          )

      -- no entry has a key for the protocol
      abbrev pub NoneOfProto : Type 0
      NoneOfProto = (m : ℕ) (kind : Kind) → m ≤ 16 → Contains table (key_at m, kind) → ⊥

      pub found_every : (kind : Kind) → NoneOfProto → Contains table (every_key dir id, kind) → longest table dir id proto port ≡ Some (every_key dir id, kind)
      found_every kind none has =
          longest_is dir id proto port table (every_key dir id, kind) (one_kind table (each_once table up)) (
            has,
            every_reaches kind,
            λ f in' t.
                elim (reaching_key f t) [
                  | inl every ↦ (let Covers : MapKey → Type 0 = λ k. covers k (every_key dir id) ≡ true in subst Covers (sym every) (covers-self (every_key dir id)))
                  | inr own ↦ absurd (none f.0.port.len f.1 own.0 (subst (Contains table) (λ i. (own.1 i, f.1)) in'))
                ],
          )

      pub found_nothing : NoneOfProto → ((kind : Kind) → Contains table (every_key dir id, kind) → ⊥) → longest table dir id proto port ≡ None
      found_nothing none none_every =
          longest_none dir id proto port table (λ f in'. false_from_ne_true (reaches dir id proto port f) (λ t.
          elim (reaching_key f t) [
            | inl every ↦ none_every f.1 (subst (Contains table) (λ i. (every i, f.1)) in')
            | inr own ↦ none f.0.port.len f.1 own.0 (subst (Contains table) (λ i. (own.1 i, f.1)) in')
          ]))

      -- where the keys for the protocol are found wanting, the key of every protocol decides
      pub last_found : (r : Option Kind) → IsKindOf table (every_key dir id) r → NoneOfProto → r ≡ option_map (λ (e : Entry). e.1) (longest table dir id proto port)
      last_found None none_every none = ap (option_map (λ (e : Entry). e.1)) (sym (found_nothing none none_every))
      last_found (Some kind) has none = ap (option_map (λ (e : Entry). e.1)) (sym (found_every kind none has))
