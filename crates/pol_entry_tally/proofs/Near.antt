-- The keys over a key stand before it, and it stands before their ends.
use Rattle.std.proofs.Common.{◌≡◌, ℕ, zero, suc, ◌+◌, ◌-◌, ◌*◌, ◌%◌, ◌^◌, ◌<◌, ◌≤◌, min, Bool, true, false, cond, ◌||◌, nat_lt, Option, None, Some, refl, sym, ◌∙◌, ap, subst, arith}
use Rattle.std.proofs.lemmas.Bool.{and_from, false_from_ne_true, lt-ltb, ltb-true}
use Rattle.pol_ports.specs.PortPrefix.{prefix_at}
use Rattle.pol_ports.specs.declared.Proto.{Proto}
use Rattle.pol_ports.specs.declared.Proto.TheVariants.{Tcp as TcpPackets, Udp as UdpPackets, Sctp as SctpPackets}
use Rattle.pol_ports.proofs.Least.{prefix_at-holds}
use Rattle.pol_mapkey.specs.KeyProto.{key_proto, proto_place}
use Rattle.pol_mapkey.specs.MapKey.{every_key, port_key}
use Rattle.pol_mapkey.specs.declared.Kind.TheVariants.{Deny}
use Rattle.pol_mapkey.specs.declared.MapKey.{MapKey}
use Rattle.pol_entry_tally.specs.Asking.{under_end}
use Rattle.pol_entry_tally.specs.Numbers.{fits, local_of}
use Rattle.pol_entry_tally.specs.Times.{Times, any_below, is_given, is_under, is_under_of, packets_of}
use Rattle.pol_entry_tally.proofs.ByNumber.{fits_is, local_small}
use Rattle.pol_entry_tally.proofs.Wider.{packets-is}

-- ---- where those under a key of one protocol end
abbrev ended : ℕ → ℕ → ℕ
ended n len = n - len + 2 ^ (16 - min len 16) * 2 ^ 5

end_is : (p floor len : ℕ) → 1 ≤ p → len ≤ 16 → under_end (p * 2 ^ 21 + floor * 2 ^ 5 + len) ≡ p * 2 ^ 21 + floor * 2 ^ 5 + 2 ^ (16 - len) * 2 ^ 5
end_is p floor len some short =
    let n = p * 2 ^ 21 + floor * 2 ^ 5 + len in
    let digit : n % 2 ^ 5 ≡ len = omega (arith, short) in
    let least : min len 16 ≡ len = omega (arith, short) in
    let more : nat_lt n (2 ^ 21) ≡ false = false_from_ne_true (nat_lt n (2 ^ 21)) (λ t. let less = ltb-true n (2 ^ 21) t in omega (arith, less, some)) in
    ap (λ b. cond b (2 ^ 23) (ended n (n % 2 ^ 5))) more ∙ ap (ended n) digit ∙ ap (λ m. n - len + 2 ^ (16 - m) * 2 ^ 5) least ∙ rest n len (2 ^ (16 - len)) refl
  where
    rest : (n len size : ℕ) → n ≡ p * 2 ^ 21 + floor * 2 ^ 5 + len → n - len + size * 2 ^ 5 ≡ p * 2 ^ 21 + floor * 2 ^ 5 + size * 2 ^ 5
    rest n len size is = omega (arith, is)

from_there : (p floor len bits l : ℕ) → floor ≤ bits → len ≤ l → p * 2 ^ 21 + floor * 2 ^ 5 + len ≤ p * 2 ^ 21 + bits * 2 ^ 5 + l
from_there p floor len bits l low less = omega (arith, low, less)

before_end : (p floor size bits l : ℕ) → bits < floor + size → l ≤ 16 → p * 2 ^ 21 + bits * 2 ^ 5 + l < p * 2 ^ 21 + floor * 2 ^ 5 + size * 2 ^ 5
before_end p floor size bits l high short = omega (arith, high, short)

pub record IsNear (w key : MapKey) : Type 0 where
  pub fit : fits w ≡ true
  pub from : local_of w ≤ local_of key
  pub to : local_of key < under_end (local_of w)

fits_from : (q : MapKey) → q.id < 2 ^ 32 → q.port.bits < 2 ^ 16 → fits q ≡ true
fits_from q small small' = and_from (nat_lt q.id (2 ^ 32)) (nat_lt q.port.bits (2 ^ 16)) (lt-ltb q.id (2 ^ 32) small) (lt-ltb q.port.bits (2 ^ 16) small')

some_place : (proto : Proto) → 1 ≤ proto_place (key_proto proto)
some_place TcpPackets = omega arith
some_place UdpPackets = omega arith
some_place SctpPackets = omega arith

module _ (key : MapKey) (fit : fits key ≡ true) where
  near_ports : (proto : Proto) → key.proto ≡ key_proto proto → (m : ℕ) → m < key.port.len → IsNear (port_key key.dir key.id proto (prefix_at key.port.bits m)) key
  near_ports proto is m less =
      let wide = prefix_at key.port.bits m in
      let w = port_key key.dir key.id proto wide in
      let p = proto_place (key_proto proto) in
      let small = fits_is key fit in
      let has = prefix_at-holds key.port.bits m in
      let most = key.port.short in
      let short : wide.len ≤ key.port.len = omega (arith, less, most) in
      let few : wide.len ≤ 16 = omega (arith, short, most) in
      let own : local_of key ≡ p * 2 ^ 21 + key.port.bits * 2 ^ 5 + key.port.len = ap (λ q. proto_place q * 2 ^ 21 + key.port.bits * 2 ^ 5 + key.port.len) is in
      record {
        fit = fits_from w small.0 (omega (arith, has.0, small.1));
        from = subst (λ n. local_of w ≤ n) (sym own) (from_there p wide.bits wide.len key.port.bits key.port.len has.0 short);
        to = subst (λ n. n < under_end (local_of w)) (sym own)
            (subst (λ n. p * 2 ^ 21 + key.port.bits * 2 ^ 5 + key.port.len < n) (sym (end_is p wide.bits wide.len (some_place proto) few))
            (before_end p wide.bits (2 ^ (16 - wide.len)) key.port.bits key.port.len has.1 most));
      }

  near_every : IsNear (every_key key.dir key.id) key
  near_every =
      let small = fits_is key fit in
      let w = every_key key.dir key.id in
      let none : local_of w ≡ 0 = refl in
      record {
        fit = fits_from w small.0 (omega arith);
        from = omega (arith, none);
        to = local_small key fit;
      }

any_same_below : (one other : ℕ → Bool) (n : ℕ) → ((m : ℕ) → m < n → one m ≡ other m) → any_below one n ≡ any_below other n
any_same_below one other zero same = refl
any_same_below one other (suc n) same = λ i. same n (omega arith) i || any_same_below one other n (λ m less. same m (omega (arith, less))) i

-- whether a key lies under a deny follows from the denies over it alone
pub under_near : (one other : Times) (key : MapKey) → fits key ≡ true
    → ((w : MapKey) → w.dir ≡ key.dir → w.id ≡ key.id → IsNear w key → is_given one Deny w ≡ is_given other Deny w) → is_under one key ≡ is_under other key
under_near one other key fit same = by (packets_of key.proto) refl
  where
    by : (o : Option Proto) → packets_of key.proto ≡ o → is_under_of one key o ≡ is_under_of other key o
    by None is = refl
    by (Some proto) is =
        let ports = any_same_below (λ len. is_given one Deny (port_key key.dir key.id proto (prefix_at key.port.bits len))) (λ len. is_given other Deny (port_key key.dir key.id proto (prefix_at key.port.bits len))) key.port.len
        (λ m less. same (port_key key.dir key.id proto (prefix_at key.port.bits m)) refl refl (near_ports key fit proto (packets-is key.proto proto is) m less)) in
        let every = same (every_key key.dir key.id) refl refl (near_every key fit) in
        λ i. ports i || every i
