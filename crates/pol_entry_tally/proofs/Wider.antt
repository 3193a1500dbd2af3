-- Which keys lie strictly over a key: those that a look for a deny over it tries.
use Rattle.std.proofs.Common.{◌≡◌, ℕ, ◌-◌, ◌%◌, ◌<◌, ◌^◌, true, not, Option, None, Some, refl, sym, ◌∙◌, ap, subst, inl, inr, arith}
use Rattle.std.proofs.lemmas.Bool.{and_from, and_parts, both_ways, cases_Bool, cases_lt, false_from_ne_true, not-true, not_from_false, or_cases, or_left, or_right}
use Rattle.std.proofs.lemmas.Nat.{pow_below, pow_pos}
use Rattle.std.proofs.lemmas.Option.{same_Some}
use Rattle.pol_ports.specs.PortPrefix.{end_of, prefix_at, prefix_contains}
use Rattle.pol_ports.specs.declared.PortPrefix.{PortPrefix}
use Rattle.pol_ports.specs.declared.Proto.{Proto}
use Rattle.pol_ports.proofs.Blocks.{floor_is, multiples_apart, prefix_same, shorter_contains}
use Rattle.pol_ports.proofs.Containing.{contains_from, contains_is, empty_contains, holds_from}
use Rattle.pol_ports.proofs.Least.{prefix_at-holds}
use Rattle.pol_mapkey.specs.KeyProto.{key_proto, key_proto-not_every, proto_covers}
use Rattle.pol_mapkey.specs.MapKey.{covers, every_key, port_key, same_key, strictly_covers}
use Rattle.pol_mapkey.specs.declared.KeyProto.{KeyProto}
use Rattle.pol_mapkey.specs.declared.KeyProto.TheVariants.{Every, Tcp, Udp, Sctp}
use Rattle.pol_mapkey.specs.declared.Kind.TheVariants.{Deny}
use Rattle.pol_mapkey.specs.declared.MapKey.{MapKey}
use Rattle.pol_mapkey.proofs.Equality.{same_key-is, same_key-self}
use Rattle.pol_mapkey.proofs.Keys.{covers_from, covers_is, key_same, proto_covers-cases, proto_covers-self}
use Rattle.pol_distill.proofs.Lookups.{prefix_made}
use Rattle.pol_distill.proofs.RawLists.{every_key_is}
use Rattle.pol_entry_tally.specs.Times.{Times, any_below, is_given, is_under, is_under_of, packets_of}
use Rattle.pol_entry_tally.proofs.Below.{below_some, some_below}

pub packets-is : (p : KeyProto) (proto : Proto) → packets_of p ≡ Some proto → p ≡ key_proto proto
packets-is Every proto is = absurd (let wrong : ⊥ = cc in wrong)
packets-is Tcp proto is = ap key_proto (same_Some _ proto is)
packets-is Udp proto is = ap key_proto (same_Some _ proto is)
packets-is Sctp proto is = ap key_proto (same_Some _ proto is)

packets-none : (p : KeyProto) → packets_of p ≡ None → p ≡ Every
packets-none Every is = refl
packets-none Tcp is = absurd (let wrong : ⊥ = cc in wrong)
packets-none Udp is = absurd (let wrong : ⊥ = cc in wrong)
packets-none Sctp is = absurd (let wrong : ⊥ = cc in wrong)

strict_from : (w key : MapKey) → covers w key ≡ true → (w ≡ key → ⊥) → strictly_covers w key ≡ true
strict_from w key over apart =
    and_from (covers w key) (not (same_key w key)) over
    (not_from_false (same_key w key) (false_from_ne_true (same_key w key) (λ t. apart (same_key-is w key t))))

own_end : (p : PortPrefix) → p.bits < end_of p
own_end p = let pos = pow_pos (16 - p.len) in omega (arith, pos)

-- ---- the keys that are tried lie over the key
module _ (key : MapKey) (proto : Proto) (is : key.proto ≡ key_proto proto) where
  shorter_over : (len : ℕ) → len < key.port.len → strictly_covers (port_key key.dir key.id proto (prefix_at key.port.bits len)) key ≡ true
  shorter_over len less =
      let wide = prefix_at key.port.bits len in
      let w = port_key key.dir key.id proto wide in
      let most = key.port.short in
      let short : wide.len ≡ len = omega (arith, less, most) in
      let has = prefix_at-holds key.port.bits len in
      let inside = shorter_contains wide key.port (omega (arith, short, less)) (omega (arith, has.0, own_end key.port)) has.1 in
      let protos : proto_covers w.proto key.proto ≡ true = subst (λ p. proto_covers w.proto p ≡ true) (sym is) (proto_covers-self (key_proto proto)) in
      strict_from w key (covers_from w key refl refl protos (contains_from wide key.port inside.0 inside.1))
      (λ same. let lens : wide.len ≡ key.port.len = ap (λ (k : MapKey). k.port.len) same in omega (arith, lens, short, less))

  every_over : key.port.bits < 2 ^ 16 → strictly_covers (every_key key.dir key.id) key ≡ true
  every_over small =
      let w = every_key key.dir key.id in
      let holds = holds_from w.port key.port.bits (omega arith) small in
      let own = holds_from key.port key.port.bits (omega arith) (own_end key.port) in
      strict_from w key (covers_from w key refl refl refl (empty_contains w.port key.port key.port.bits refl holds own))
      (λ same. key_proto-not_every proto (sym (ap (λ (k : MapKey). k.proto) same ∙ is)))

module _ (given : Times) where
  -- under a deny there is one over the key
  pub wide_of : (key : MapKey) → key.port.bits < 2 ^ 16 → is_under given key ≡ true → (w : MapKey) × (strictly_covers w key ≡ true) × (is_given given Deny w ≡ true)
  wide_of key small t = by (packets_of key.proto) refl t
    where
      by : (o : Option Proto) → packets_of key.proto ≡ o → is_under_of given key o ≡ true → (w : MapKey) × (strictly_covers w key ≡ true) × (is_given given Deny w ≡ true)
      by None is under = absurd (let wrong : ⊥ = cc in wrong)
      by (Some proto) is under =
          let own = packets-is key.proto proto is in
          let test = λ (len : ℕ). is_given given Deny (port_key key.dir key.id proto (prefix_at key.port.bits len)) in
          elim (or_cases (any_below test key.port.len) (is_given given Deny (every_key key.dir key.id)) under) [
            | inl some ↦ (let one = below_some test key.port.len some in (port_key key.dir key.id proto (prefix_at key.port.bits one.0), shorter_over key proto own one.0 one.1, one.2))
            | inr every ↦ (every_key key.dir key.id, every_over key proto own small, every)
          ]

-- ---- each key that lies over it is tried
zero_bits : (p : PortPrefix) → p.len ≡ 0 → p.bits < 2 ^ 16 → p.bits ≡ 0
zero_bits p none small =
    let size : 2 ^ (16 - p.len) ≡ 65536 = ap (λ n. 2 ^ (16 - n)) none in
    let clear : p.bits % 65536 ≡ 0 = subst (λ m. p.bits % m ≡ 0) size p.clear in
    elim (cases_lt 0 p.bits) [
      | inl more ↦ absurd (omega (arith, multiples_apart 65536 0 p.bits refl clear more, small))
      | inr none' ↦ omega (arith, none')
    ]

every_is : (k : MapKey) (key : MapKey) → k.dir ≡ key.dir → k.id ≡ key.id → k.proto ≡ Every → k.port.bits < 2 ^ 16 → k ≡ every_key key.dir key.id
every_is k key dirs ids every small =
    let len = k.every_port every in
    every_key_is key.dir key.id k dirs ids every (zero_bits k.port len small) len

-- a prefix that contains another and differs from it is shorter, and has the other's first port
shorter : (p q : PortPrefix) → prefix_contains p q ≡ true → (p ≡ q → ⊥) → p.len < q.len
shorter p q over apart =
    let c = contains_is p q over in
    let p_short = p.short in
    elim (cases_lt p.len q.len) [
      | inl less ↦ less
      | inr more ↦ elim (cases_lt q.len p.len) [
        | inl longer ↦ absurd (omega (arith, c.0, c.1, pow_below (16 - p.len) (16 - q.len) (omega (arith, longer, p_short))))
        | inr same' ↦
            (let same : p.len ≡ q.len = omega (arith, more, same') in
            let size : 2 ^ (16 - p.len) ≡ 2 ^ (16 - q.len) = ap (λ n. 2 ^ (16 - n)) same in
            let bits : p.bits ≡ q.bits = omega (arith, c.0, c.1, size) in
            absurd (apart (prefix_same p q bits same)))
      ]
    ]

prefix_there : (p q : PortPrefix) → prefix_contains p q ≡ true → p ≡ prefix_at q.bits p.len
prefix_there p q over =
    let c = contains_is p q over in
    prefix_made q.bits p.len p p.short (sym (floor_is q.bits (2 ^ (16 - p.len)) p.bits (pow_pos (16 - p.len)) p.clear c.0 (omega (arith, c.1, own_end q)))) refl

module _ (given : Times) where
  pub under_from : (w key : MapKey) → key.port.bits < 2 ^ 16 → strictly_covers w key ≡ true → is_given given Deny w ≡ true → is_under given key ≡ true
  under_from w key small strict denied = by (packets_of key.proto) refl
    where
      both : (covers w key ≡ true) × (not (same_key w key) ≡ true)
      both = and_parts (covers w key) (not (same_key w key)) strict

      apart : w ≡ key → ⊥
      apart same = both_ways (same_key w key) (not-true (same_key w key) both.1) (subst (λ k. same_key w k ≡ true) same (same_key-self w))

      small_w : w.port.bits < 2 ^ 16
      small_w = let c = contains_is w.port key.port (covers_is w key both.0).3 in omega (arith, c.0, small)

      by : (o : Option Proto) → packets_of key.proto ≡ o → is_under_of given key o ≡ true
      by None is =
          let c = covers_is w key both.0 in
          let own = packets-none key.proto is in
          let every : w.proto ≡ Every = elim (proto_covers-cases w.proto key.proto c.2) [ inl e ↦ e | inr same ↦ same ∙ own ] in
          absurd (apart (every_is w key c.0 c.1 every small_w ∙ sym (every_is key key refl refl own small)))
      by (Some proto) is =
          let c = covers_is w key both.0 in
          let own = packets-is key.proto proto is in
          let test = λ (len : ℕ). is_given given Deny (port_key key.dir key.id proto (prefix_at key.port.bits len)) in
          elim (proto_covers-cases w.proto key.proto c.2) [
            | inl every ↦
                or_right (any_below test key.port.len) (is_given given Deny (every_key key.dir key.id))
                (subst (λ k. is_given given Deny k ≡ true) (every_is w key c.0 c.1 every small_w) denied)
            | inr same ↦
                (let port = prefix_there w.port key.port c.3 in
                let at : w ≡ port_key key.dir key.id proto (prefix_at key.port.bits w.port.len) = key_same w (port_key key.dir key.id proto (prefix_at key.port.bits w.port.len)) c.0 c.1 (same ∙ own) port in
                let less = shorter w.port key.port c.3 (λ ports. apart (key_same w key c.0 c.1 same ports)) in
                or_left (any_below test key.port.len) (is_given given Deny (every_key key.dir key.id))
                (some_below test key.port.len w.port.len less (subst (λ k. is_given given Deny k ≡ true) at denied)))
          ]

-- where the denies over a key are the same, it lies under one or not alike
pub under_same : (one other : Times) (key : MapKey) → key.port.bits < 2 ^ 16 → ((w : MapKey) → strictly_covers w key ≡ true → is_given one Deny w ≡ is_given other Deny w) → is_under one key ≡ is_under other key
under_same one other key small alike =
    elim (cases_Bool (is_under one key)) [
      | inl t ↦ (let w = wide_of one key small t in t ∙ sym (under_from other w.0 key small w.1 (sym (alike w.0 w.1) ∙ w.2)))
      | inr f ↦
          f ∙ sym (false_from_ne_true (is_under other key) (λ t.
          let w = wide_of other key small t in both_ways (is_under one key) f (under_from one w.0 key small w.1 (alike w.0 w.1 ∙ w.2))))
    ]
