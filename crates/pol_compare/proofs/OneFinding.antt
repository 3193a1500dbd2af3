-- A text has one finding.
use Rattle.std.proofs.Common.{◌≡◌, ◌+◌, ◌<◌, ◌^◌, ℕ, Bool, true, false, nat_lt, List, length, Option, None, Some, inl, inr, refl, ap, sym, subst, ◌∙◌, arith, ltb-true, ltb-false}
use Rattle.pol_ports.specs.declared.Direction.{Direction}
use Rattle.pol_ports.specs.declared.Direction.TheVariants.{Ingress, Egress}
use Rattle.pol_ports.specs.declared.Proto.{Proto}
use Rattle.pol_ports.specs.declared.Proto.TheVariants.{Tcp, Udp, Sctp}
use Rattle.pol_mapkey.specs.Entries.{Entry, read_map}
use Rattle.pol_audit.specs.declared.packet.Audit.{Audit}
use Rattle.pol_audit.specs.declared.packet.Audit.TheVariants.{Same, Differs}
use Rattle.pol_audit.specs.declared.packet.Packet.{Packet}
use Rattle.pol_audit.specs.Audit.{IsAudit, IsLeastDiffering}
use Rattle.pol_audit.specs.Packets.{ComesBefore, direction_place, packet_place}
use Rattle.pol_audit.specs.Text.{IsBadLine}
use Rattle.pol_audit.proofs.Unique.{no_bad_line, one_bad_line, text_tells}
use Rattle.pol_compare.specs.declared.finding.Finding.{Finding}
use Rattle.pol_compare.specs.declared.finding.Finding.TheVariants.{BadTable, NoDivider, Compared}
use Rattle.pol_compare.specs.Finding.{AreSmall, HasPort, IsBadFirst, IsFinding, IsFoundAlone, IsFoundBehind, IsFoundIn, IsTextOf}
use Rattle.pol_compare.specs.Parts.{parts_of}

-- ---- one of two numbers is less, or they are equal
data Ordered (m n : ℕ) : Type 0 where
  less : m < n → Ordered m n
  equal : m ≡ n → Ordered m n
  more : n < m → Ordered m n

ordered : (m n : ℕ) → Ordered m n
ordered m n = by (nat_lt m n) (nat_lt n m) refl refl
  where
    by : (b c : Bool) → nat_lt m n ≡ b → nat_lt n m ≡ c → Ordered m n
    by true c is is' = less (ltb-true m n is)
    by false true is is' = more (ltb-true n m is')
    by false false is is' = let one = ltb-false m n is in let other = ltb-false n m is' in equal (omega arith)

one_direction : (a b : Direction) → direction_place a ≡ direction_place b → a ≡ b
one_direction Ingress Ingress same = refl
one_direction Ingress Egress same = absurd (omega (arith, same))
one_direction Egress Ingress same = absurd (omega (arith, same))
one_direction Egress Egress same = refl

one_proto : (a b : Proto) → packet_place a ≡ packet_place b → a ≡ b
one_proto Tcp Tcp same = refl
one_proto Tcp Udp same = absurd (omega (arith, same))
one_proto Tcp Sctp same = absurd (omega (arith, same))
one_proto Udp Tcp same = absurd (omega (arith, same))
one_proto Udp Udp same = refl
one_proto Udp Sctp same = absurd (omega (arith, same))
one_proto Sctp Tcp same = absurd (omega (arith, same))
one_proto Sctp Udp same = absurd (omega (arith, same))
one_proto Sctp Sctp same = refl

-- ---- two packets: one comes before the other, or they are of one direction, number, protocol and port
data Placed (p q : Packet) : Type 0 where
  first : ComesBefore p.dir p.id p.proto q.dir q.id q.proto (p.port < q.port) → Placed p q
  together : p.dir ≡ q.dir → p.id ≡ q.id → p.proto ≡ q.proto → p.port ≡ q.port → Placed p q
  second : ComesBefore q.dir q.id q.proto p.dir p.id p.proto (q.port < p.port) → Placed p q

by_port : (p q : Packet) → p.dir ≡ q.dir → p.id ≡ q.id → p.proto ≡ q.proto → Ordered p.port q.port → Placed p q
by_port p q dir id proto (less is) = first (inr (dir, inr (id, inr (proto, is))))
by_port p q dir id proto (equal is) = together dir id proto is
by_port p q dir id proto (more is) = second (inr (sym dir, inr (sym id, inr (sym proto, is))))

by_proto : (p q : Packet) → p.dir ≡ q.dir → p.id ≡ q.id → Ordered (packet_place p.proto) (packet_place q.proto) → Placed p q
by_proto p q dir id (less is) = first (inr (dir, inr (id, inl is)))
by_proto p q dir id (equal is) = by_port p q dir id (one_proto p.proto q.proto is) (ordered p.port q.port)
by_proto p q dir id (more is) = second (inr (sym dir, inr (sym id, inl is)))

by_id : (p q : Packet) → p.dir ≡ q.dir → Ordered p.id q.id → Placed p q
by_id p q dir (less is) = first (inr (dir, inl is))
by_id p q dir (equal is) = by_proto p q dir is (ordered (packet_place p.proto) (packet_place q.proto))
by_id p q dir (more is) = second (inr (sym dir, inl is))

by_direction : (p q : Packet) → Ordered (direction_place p.dir) (direction_place q.dir) → Placed p q
by_direction p q (less is) = first (inl is)
by_direction p q (equal is) = by_id p q (one_direction p.dir q.dir is) (ordered p.id q.id)
by_direction p q (more is) = second (inl is)

-- ---- an audit finds one thing
module _ (left right : List Entry) where
  differs_there : (p : Packet) → IsLeastDiffering left right p → read_map left p.dir p.id p.proto p.port ≡ read_map right p.dir p.id p.proto p.port → ⊥
  differs_there p is same = is.differ (sym is.left_word ∙ same ∙ is.right_word)

  one_packet : (p q : Packet) → p.port < 2 ^ 16 → q.port < 2 ^ 16 → IsLeastDiffering left right p → IsLeastDiffering left right q → Placed p q → p ≡ q
  one_packet p q small small' is is' (first comes) = absurd (differs_there p is (is'.least p.dir p.id p.proto p.port small comes))
  one_packet p q small small' is is' (second comes) = absurd (differs_there q is' (is.least q.dir q.id q.proto q.port small' comes))
  one_packet p q small small' is is' (together dir id proto port) =
      let one : p.left ≡ q.left = sym is.left_word ∙ (λ i. read_map left (dir i) (id i) (proto i) (port i)) ∙ is'.left_word in
      let other : p.right ≡ q.right = sym is.right_word ∙ (λ i. read_map right (dir i) (id i) (proto i) (port i)) ∙ is'.right_word in
      λ i. record { dir = dir i; id = id i; proto = proto i; port = port i; left = one i; right = other i }

  one_audit : (a b : Audit) → HasPort a → HasPort b → IsAudit left right a → IsAudit left right b → a ≡ b
  one_audit Same Same small small' is is' = refl
  one_audit Same (Differs q) small small' is is' = absurd (differs_there q is' (is q.dir q.id q.proto q.port small'))
  one_audit (Differs p) Same small small' is is' = absurd (differs_there p is (is' p.dir p.id p.proto p.port small))
  one_audit (Differs p) (Differs q) small small' is is' =
      ap (λ (packet : Packet). Differs packet) (one_packet p q small small' is is' (by_direction p q (ordered (direction_place p.dir) (direction_place q.dir))))

-- ---- a text has one finding
not_bad : (table : List Entry) (text : List ℕ) (line : ℕ) → IsTextOf table text → IsBadLine text line → ⊥
not_bad table text line is bad = no_bad_line table line is.kept is.ascends (subst (λ (xs : List ℕ). IsBadLine xs line) is.written bad)

one_table : (a b : List Entry) (text : List ℕ) → IsTextOf a text → IsTextOf b text → a ≡ b
one_table a b text is is' = text_tells a b is.kept is'.kept (sym is.written ∙ is'.written)

one_alone : (text : List ℕ) (a b : Finding) → IsFoundAlone text a → IsFoundAlone text b → a ≡ b
one_alone text (BadTable m) (BadTable n) is is' = ap (λ (k : ℕ). BadTable k) (one_bad_line text m n is is')
one_alone text (BadTable m) NoDivider is (table, is') = absurd (not_bad table text m is' is)
one_alone text (BadTable m) (Compared b) is none = absurd none
one_alone text NoDivider (BadTable n) (table, is) is' = absurd (not_bad table text n is is')
one_alone text NoDivider NoDivider is is' = refl
one_alone text NoDivider (Compared b) is none = absurd none
one_alone text (Compared a) b none is' = absurd none

one_behind : (left : List Entry) (back : List ℕ) (a b : Finding) → AreSmall a → AreSmall b → IsFoundBehind left back a → IsFoundBehind left back b → a ≡ b
one_behind left back (BadTable m) (BadTable n) small small' (i, bad, is) (j, bad', is') =
    ap (λ (k : ℕ). BadTable k) (is ∙ ap (λ (k : ℕ). length left + 1 + k) (one_bad_line back i j bad bad') ∙ sym is')
one_behind left back (BadTable m) NoDivider small small' is none = absurd none
one_behind left back (BadTable m) (Compared b) small small' (i, bad, is) (right, text, audit) = absurd (not_bad right back i text bad)
one_behind left back NoDivider b small small' none is' = absurd none
one_behind left back (Compared a) (BadTable n) small small' (right, text, audit) (j, bad, is) = absurd (not_bad right back j text bad)
one_behind left back (Compared a) NoDivider small small' is none = absurd none
one_behind left back (Compared a) (Compared b) small small' (right, text, audit) (right', text', audit') =
    ap (λ (found : Audit). Compared found)
    (one_audit left right a b small small' audit (subst (λ (es : List Entry). IsAudit left es b) (one_table right' right back text' text) audit'))

one_first : (front : List ℕ) (a b : Finding) → IsBadFirst front a → IsBadFirst front b → a ≡ b
one_first front (BadTable m) (BadTable n) is is' = ap (λ (k : ℕ). BadTable k) (one_bad_line front m n is is')
one_first front (BadTable m) NoDivider is none = absurd none
one_first front (BadTable m) (Compared b) is none = absurd none
one_first front NoDivider b none is' = absurd none
one_first front (Compared a) b none is' = absurd none

first_not_bad : (front : List ℕ) (left : List Entry) (a : Finding) → IsBadFirst front a → IsTextOf left front → ⊥
first_not_bad front left (BadTable m) bad is = not_bad left front m is bad
first_not_bad front left NoDivider none is = none
first_not_bad front left (Compared a) none is = none

one_in : (front : List ℕ) (back : Option (List ℕ)) (a b : Finding) → AreSmall a → AreSmall b → IsFoundIn front back a → IsFoundIn front back b → a ≡ b
one_in front None a b small small' is is' = one_alone front a b is is'
one_in front (Some back) a b small small' (inl bad) (inl bad') = one_first front a b bad bad'
one_in front (Some back) a b small small' (inl bad) (inr (left, text, is)) = absurd (first_not_bad front left a bad text)
one_in front (Some back) a b small small' (inr (left, text, is)) (inl bad) = absurd (first_not_bad front left b bad text)
one_in front (Some back) a b small small' (inr (left, text, is)) (inr (left', text', is')) =
    one_behind left back a b small small' is (subst (λ (es : List Entry). IsFoundBehind es back b) (one_table left' left front text' text) is')

pub one_finding : (text : List ℕ) (a b : Finding) → AreSmall a → AreSmall b → IsFinding text a → IsFinding text b → a ≡ b
one_finding text a b small small' is is' = one_in (parts_of text).front (parts_of text).back a b small small' is is'
