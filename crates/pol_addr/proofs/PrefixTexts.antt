-- The reader of a prefix reads the grammar of prefixes, and nothing else.
use Rattle.std.proofs.Common.{◌≡◌, ◌≢◌, ℕ, suc, ◌<◌, ◌≤◌, ◌==◌, false, List, [], ◌∷◌, ◌++◌, length, get_or, Option, Some, None, option_map, IfSome, IfNone, decimal, codes, Bor, refl, sym, ap, ◌∙◌, inl, inr, append_assoc, arith, ne_eqb, eq-eqb}
use Rattle.std.proofs.lemmas.Option.{none-some, same_Some}
use Rattle.std.proofs.lemmas.Bool.{cases_eq}
use Rattle.std.proofs.lemmas.Fmt.{decimal_is_IsNumeral}
use Rattle.std.proofs.lemmas.Str.Parse.{digit_at}
use Rattle.std.proofs.lemmas.Str.Pattern.{IsSplitOnceResult, split_parts}
use Rattle.std.proofs.NetLemmas.Options.{and_then_some, map_some, same_parts}
use Rattle.pol_addr.specs.Address.{Addr, V4, V6, read_addr, width_of}
use Rattle.pol_addr.specs.Prefix.{Prefix, cut_at, read_len, read_parts, read_prefix}
use Rattle.pol_addr.specs.Grammar.{WritesAddr, WritesOctets, WritesPrefix}
use Rattle.pol_addr.specs.Grammar.WritesAddr.{dotted, hex}
use Rattle.pol_addr.specs.Grammar.WritesPrefix.{bare, pair}
use Rattle.pol_addr.specs.Cidr.{IsPrefix}
use Rattle.pol_addr.proofs.Bytes.{has, lacks_both, lacks_from, none_at}
use Rattle.pol_addr.proofs.ByFamily.{IsPrefix-cleared}
use Rattle.pol_addr.proofs.HexTexts.{IsAddr-writes, lacks_byte, read_addr_complete, read_addr_sound}
use Rattle.pol_addr.proofs.Texts.{read_len_complete, read_len_sound}

-- ---- the cut at a byte
lacks_tail : (byte x : ℕ) (xs : List ℕ) → ((i : ℕ) → i < length (x ∷ xs) → get_or (x ∷ xs) i 0 ≢ byte) → (i : ℕ) → i < length xs → get_or xs i 0 ≢ byte
lacks_tail byte x xs none i within = none (suc i) (omega arith)

lacks_head : (byte x : ℕ) (xs : List ℕ) → ((i : ℕ) → i < length (x ∷ xs) → get_or (x ∷ xs) i 0 ≢ byte) → (x == byte) ≡ false
lacks_head byte x xs none = ne_eqb x byte (none 0 (omega arith))

pub cut_at-none : (byte : ℕ) (text : List ℕ) → ((i : ℕ) → i < length text → get_or text i 0 ≢ byte) → cut_at byte text ≡ None
cut_at-none byte [] none = refl
cut_at-none byte (x ∷ xs) none = rw (lacks_head byte x xs none, cut_at-none byte xs (lacks_tail byte x xs none)) refl

pub cut_at-some : (byte : ℕ) (front rest : List ℕ) → ((i : ℕ) → i < length front → get_or front i 0 ≢ byte) → cut_at byte (front ++ byte ∷ rest) ≡ Some (front, rest)
cut_at-some byte [] rest none = rw (eq-eqb byte byte refl) refl
cut_at-some byte (x ∷ xs) rest none = rw (lacks_head byte x xs none, cut_at-some byte xs rest (lacks_tail byte x xs none)) refl

pub cut_at-sound : (byte : ℕ) (text front rest : List ℕ) → cut_at byte text ≡ Some (front, rest) → text ≡ front ++ byte ∷ rest
cut_at-sound byte [] front rest e = absurd (none-some (front, rest) e)
cut_at-sound byte (x ∷ xs) front rest e =
    elim (cases_eq x byte) [
      | inl same ↦
          let (front_is, rest_is) = same_parts [] front xs rest (rw (eq-eqb x byte same) at e) in
          rw (same, ← front_is, ← rest_is) refl
      | inr other ↦
          map_some _ (cut_at byte xs) (front, rest) (rw (ne_eqb x byte other) at e) λ parts cut is.
          rw (← ap (λ q. q.0) is, ← ap (λ q. q.1) is) (ap (λ t. x ∷ t) (cut_at-sound byte xs parts.0 parts.1 cut))
    ]

-- what `split_once` answers is the cut
pub cut_at-split_once : (byte : ℕ) (text : List ℕ) (r : Option (Bor (List ℕ) × Bor (List ℕ))) → IsSplitOnceResult byte text r → byte < 128 → cut_at byte text ≡ option_map (λ x. (x.0.now, x.1.now)) r
cut_at-split_once byte text None h ascii = cut_at-none byte text (split_parts byte text None h ascii)
cut_at-split_once byte text (Some x) h ascii =
    let (joined, none) = split_parts byte text (Some x) h ascii in
    rw joined (cut_at-some byte x.0.now x.1.now none)

-- ---- an address text has no slash
lacks_decimal : (n : ℕ) → n ≤ 255 → has 47 (decimal n) ≡ false
lacks_decimal n small =
    lacks_from 47 (decimal n) (λ i within. let at = digit_at (decimal n) i (decimal_is_IsNumeral n (omega arith)).0.1 within in λ e. omega (arith, at))

lacks_parts : (a b c d : List ℕ) → has 47 a ≡ false → has 47 b ≡ false → has 47 c ≡ false → has 47 d ≡ false → has 47 (a ++ codes "." ++ b ++ codes "." ++ c ++ codes "." ++ d) ≡ false
lacks_parts a b c d no_a no_b no_c no_d =
    let one = lacks_both 47 a (codes ".") no_a refl in
    let two = lacks_both 47 (a ++ codes "." ++ b) (codes ".") (lacks_both 47 (a ++ codes ".") b one no_b) refl in
    let three = lacks_both 47 (a ++ codes "." ++ b ++ codes "." ++ c) (codes ".") (lacks_both 47 (a ++ codes "." ++ b ++ codes ".") c two no_c) refl in
    lacks_both 47 (a ++ codes "." ++ b ++ codes "." ++ c ++ codes ".") d three no_d

octets_lack : (text : List ℕ) (addr : Addr) → WritesOctets text addr → has 47 text ≡ false
octets_lack text addr h =
    rw h.written (
    lacks_parts (decimal h.a) (decimal h.b) (decimal h.c) (decimal h.d) (lacks_decimal h.a (omega (arith, h.octets))) (lacks_decimal h.b (omega (arith, h.octets))) (lacks_decimal h.c (omega (arith, h.octets)))
    (lacks_decimal h.d (omega (arith, h.octets)))
    )

no_slash : (text : List ℕ) (addr : Addr) → WritesAddr text addr → has 47 text ≡ false
no_slash text addr (dotted h) = octets_lack text addr h
no_slash text addr (hex h) = lacks_byte 47 (omega arith) refl text h.groups h.written

lacks_slash : (text : List ℕ) (addr : Addr) → WritesAddr text addr → (i : ℕ) → i < length text → get_or text i 0 ≢ 47
lacks_slash text addr h = none_at 47 text (no_slash text addr h)

width_small : (addr : Addr) → width_of addr < 256
width_small (V4 n) = omega arith
width_small (V6 n) = omega arith

-- ---- the grammar
pub read_prefix_complete : (text : List ℕ) (p : Prefix) → WritesPrefix text p → read_prefix text ≡ Some p
unfolding read_prefix
read_prefix_complete text p (bare h) =
    let none = cut_at-none 47 text (lacks_slash text h.addr h.address) in
    rw (none, read_addr_complete text h.addr h.address) (ap Some (sym h.value))
read_prefix_complete text p (pair h) =
    let some = cut_at-some 47 h.addr_text (decimal h.len) (lacks_slash h.addr_text h.addr h.address) in
    let joined : text ≡ h.addr_text ++ 47 ∷ decimal h.len = h.written ∙ append_assoc h.addr_text (47 ∷ []) (decimal h.len) in
    rw (joined, some, read_addr_complete h.addr_text h.addr h.address, read_len_complete (width_of h.addr) (decimal h.len) h.len (width_small h.addr) h.len_in_range refl) (ap Some (sym h.value))

read_parts_sound : (text : List ℕ) (p : Prefix) (cut : Option (List ℕ × List ℕ)) → cut_at 47 text ≡ cut → read_parts text cut ≡ Some p → WritesPrefix text p
read_parts_sound text p None is e =
    and_then_some _ (read_addr text) p e λ addr read value.
    bare (record { addr = addr; address = read_addr_sound text addr read; value = sym (same_Some _ _ value) })
read_parts_sound text p (Some (front, rest)) is e =
    and_then_some _ (read_addr front) p e λ addr read e'.
    and_then_some _ (read_len (width_of addr) rest) p e' λ len read' value.
    let (small, written) = read_len_sound (width_of addr) rest len read' in
    pair (record {
      addr_text = front;
      addr = addr;
      len = len;
      address = read_addr_sound front addr read;
      len_in_range = small;
      written = cut_at-sound 47 text front rest is ∙ ap (λ t. front ++ 47 ∷ t) written ∙ sym (append_assoc front (47 ∷ []) (decimal len));
      value = sym (same_Some _ _ value);
    })

pub read_prefix_sound : (text : List ℕ) (p : Prefix) → read_prefix text ≡ Some p → WritesPrefix text p
unfolding read_prefix
read_prefix_sound text p e = read_parts_sound text p (cut_at 47 text) refl e

-- an answer that is the reading of the text has the grammar's value, or there is none
pub some_writes : (text : List ℕ) (r : Option Prefix) → r ≡ read_prefix text → IfSome r (WritesPrefix text)
some_writes text None is = tt
some_writes text (Some p) is = read_prefix_sound text p (sym is)

pub none_writes : (text : List ℕ) (r : Option Prefix) → r ≡ read_prefix text → IfNone r ((p : Prefix) → ¬ (WritesPrefix text p))
none_writes text None is = λ p h. none-some p (is ∙ read_prefix_complete text p h)
none_writes text (Some p) is = tt

pub writes_one_prefix : (text : List ℕ) (p q : Prefix) → WritesPrefix text p → WritesPrefix text q → p ≡ q
writes_one_prefix text p q h k = same_Some p q (sym (read_prefix_complete text p h) ∙ read_prefix_complete text q k)

IsPrefix-writes : (text : List ℕ) (p : Prefix) → WritesPrefix text p → IsPrefix p
IsPrefix-writes text p (bare h) = rw h.value (IsPrefix-cleared (width_of h.addr) h.addr (omega arith) (IsAddr-writes text h.addr h.address))
IsPrefix-writes text p (pair h) = rw h.value (IsPrefix-cleared h.len h.addr h.len_in_range (IsAddr-writes h.addr_text h.addr h.address))

pub IsPrefix-read_prefix : (text : List ℕ) (p : Prefix) → read_prefix text ≡ Some p → IsPrefix p
IsPrefix-read_prefix text p e = IsPrefix-writes text p (read_prefix_sound text p e)
