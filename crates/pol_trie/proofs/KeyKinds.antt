-- The kinds of the keys of one direction and identity.
use Rattle.std.proofs.Common.{◌≡◌, ◌-◌, ◌%◌, ◌^◌, ◌<◌, Bool, true, false, if◌then◌else◌, Option, Some, None, refl, sym, ap, subst, ◌∙◌, arith}
use Rattle.std.specs.FinMap as map
use Rattle.pol_ports.specs.declared.PortPrefix.{PortPrefix}
use Rattle.pol_ports.specs.PortPrefix.{empty_prefix, same_prefix, prefix_cmp}
use Rattle.pol_ports.proofs.Blocks.{prefix_same}
use Rattle.pol_mapkey.specs.declared.KeyProto.{KeyProto}
use Rattle.pol_mapkey.specs.declared.KeyProto.TheVariants.{Every, Tcp, Udp, Sctp}
use Rattle.pol_mapkey.specs.declared.Kind.{Kind}
use Rattle.pol_trie.specs.declared.key_set.KeySet.{KeySet}
use Rattle.pol_trie.specs.KeySet.{kind_of, HasKind}
use Rattle.pol_trie.specs.PortMap.{PortMap}
use Rattle.pol_trie.proofs.Prefixes.{same_from}
use Rattle.pol_trie.proofs.Listing.{get-put, get-taken}

-- the prefix without bits is the empty one
pub empty_is : (port : PortPrefix) → port.len ≡ 0 → port.bits < 2 ^ 16 → empty_prefix ≡ port
empty_is port none below =
    let size : 2 ^ (16 - port.len) ≡ 65536 = ap (λ l. 2 ^ (16 - l)) none in
    let clear : port.bits % 65536 ≡ 0 = sym (ap (λ m. port.bits % m) size) ∙ port.clear in
    prefix_same empty_prefix port (omega arith) (sym none)

first : (s : Bool) (x y : Option Kind) → s ≡ true → x ≡ (if s then x else y)
first true x y e = refl
first false x y e = cc

pub get_every : (s : KeySet) (proto : KeyProto) (port : PortPrefix) → proto ≡ Every → empty_prefix ≡ port → s.every ≡ kind_of s proto port
get_every s proto port is e =
    let P : KeyProto → Type 0 = λ p. s.every ≡ kind_of s p port in
    subst P (sym is) (first (same_prefix empty_prefix port) s.every None (same_from empty_prefix port e))

pub has_every : (old : KeySet) (proto : KeyProto) (port : PortPrefix) (value : Option Kind) → proto ≡ Every → empty_prefix ≡ port
    → HasKind old (record old { every = value }) proto port value
has_every old proto port value is e =
    let P : KeyProto → Type 0 = λ p. HasKind old (record old { every = value }) p port value in
    subst P (sym is) there
  where
    choose : (s t : Bool) (x : Option Kind) → s ≡ t → (if s then value else None) ≡ (if t then value else (if s then x else None))
    choose true true x e = refl
    choose false false x e = refl
    choose true false x e = cc
    choose false true x e = cc

    there : HasKind old (record old { every = value }) Every port value
    there Every q = choose (same_prefix empty_prefix q) (same_prefix port q) old.every (ap (λ p. same_prefix p q) e)
    there Tcp q = refl
    there Udp q = refl
    there Sctp q = refl

pub has_tcp : (old : KeySet) (m : PortMap) (proto : KeyProto) (port : PortPrefix) (value : Option Kind) → proto ≡ Tcp
    → ((q : PortPrefix) → map.get m q ≡ (if same_prefix port q then value else map.get old.tcp q)) → HasKind old (record old { tcp = m }) proto port value
has_tcp old m proto port value is kinds =
    let P : KeyProto → Type 0 = λ p. HasKind old (record old { tcp = m }) p port value in
    subst P (sym is) there
  where
    there : HasKind old (record old { tcp = m }) Tcp port value
    there Every q = refl
    there Tcp q = kinds q
    there Udp q = refl
    there Sctp q = refl

pub has_udp : (old : KeySet) (m : PortMap) (proto : KeyProto) (port : PortPrefix) (value : Option Kind) → proto ≡ Udp
    → ((q : PortPrefix) → map.get m q ≡ (if same_prefix port q then value else map.get old.udp q)) → HasKind old (record old { udp = m }) proto port value
has_udp old m proto port value is kinds =
    let P : KeyProto → Type 0 = λ p. HasKind old (record old { udp = m }) p port value in
    subst P (sym is) there
  where
    there : HasKind old (record old { udp = m }) Udp port value
    there Every q = refl
    there Tcp q = refl
    there Udp q = kinds q
    there Sctp q = refl

pub has_sctp : (old : KeySet) (m : PortMap) (proto : KeyProto) (port : PortPrefix) (value : Option Kind) → proto ≡ Sctp
    → ((q : PortPrefix) → map.get m q ≡ (if same_prefix port q then value else map.get old.sctp q)) → HasKind old (record old { sctp = m }) proto port value
has_sctp old m proto port value is kinds =
    let P : KeyProto → Type 0 = λ p. HasKind old (record old { sctp = m }) p port value in
    subst P (sym is) there
  where
    there : HasKind old (record old { sctp = m }) Sctp port value
    there Every q = refl
    there Tcp q = refl
    there Udp q = refl
    there Sctp q = kinds q

-- a prefix put in a map or taken out, as these lemmas ask
pub put_as : (m new : PortMap) (port : PortPrefix) (kind : Kind) → new ≡ map.insert m port kind → (q : PortPrefix) → map.get new q ≡ (if same_prefix port q then Some kind else map.get m q)
put_as m new port kind e q = ap (λ x. map.get x q) e ∙ get-put m port kind q

pub taken_as : (m new : PortMap) (port : PortPrefix) → new ≡ map.remove m port → (q : PortPrefix) → map.get new q ≡ (if same_prefix port q then None else map.get m q)
taken_as m new port e q = ap (λ x. map.get x q) e ∙ get-taken m port q

-- no keys
pub no_kinds : (s : KeySet) → s.every ≡ None → s.tcp ≡ map.empty → s.udp ≡ map.empty → s.sctp ≡ map.empty → (proto : KeyProto) (port : PortPrefix) → kind_of s proto port ≡ None
no_kinds s every tcp udp sctp Every port = ap (λ x. if same_prefix empty_prefix port then x else None) every ∙ nothing (same_prefix empty_prefix port) None
  where
    nothing : (b : Bool) (n : Option Kind) → (if b then n else n) ≡ n
    nothing true n = refl
    nothing false n = refl
no_kinds s every tcp udp sctp Tcp port = ap (λ m. map.get m port) tcp ∙ map.get-empty prefix_cmp port
no_kinds s every tcp udp sctp Udp port = ap (λ m. map.get m port) udp ∙ map.get-empty prefix_cmp port
no_kinds s every tcp udp sctp Sctp port = ap (λ m. map.get m port) sctp ∙ map.get-empty prefix_cmp port
