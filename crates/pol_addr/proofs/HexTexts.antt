-- The reader of IPv6 addresses, and that of both families, read their grammar, and nothing else.
use Rattle.std.proofs.Common.{◌≡◌, ℕ, zero, suc, ◌+◌, ◌-◌, ◌*◌, ◌^◌, ◌<◌, ◌≤◌, Bool, true, false, List, [], ◌∷◌, ◌++◌, codes, length, get_or, replicate, Option, Some, None, option_map, IfSome, IfNone, Result, Ok, Err, decimal, refl, sym, ap, ◌∙◌, inl, inr, append-nil, arith, lit≤, ne_eqb}
use Rattle.std.proofs.lemmas.Option.{none-some, same_Some}
use Rattle.std.proofs.lemmas.Bool.{both_ways, or_from}
use Rattle.std.proofs.lemmas.Int.Digits.{digits_value-lt}
use Rattle.std.proofs.Math.Nat.{pow-le-pow_right}
use Rattle.std.specs.Char.{digit_value}
use Rattle.std.specs.Str.Parse.{AllDigits}
use Rattle.std.specs.Net.Reader.{read_ipv6, whole_value}
use Rattle.std.specs.declared.net.ipv6_addr.Ipv6Addr.{Ipv6Addr}
use Rattle.std.specs.Net.Addr.{ipv6_segments}
use Rattle.std.specs.Net.Grammar.{IsColonHex, IsDotted, IsGroup, IsGroups, IsGroupsAfter, IsIpv6Text, Parses}
use Rattle.std.specs.Result.{result_ok}
use Rattle.std.proofs.NetLemmas.Options.{and_then_some, cond_none}
use Rattle.std.proofs.NetLemmas.Ipv6.{EndsGroups-nil, IsDotted-not_colon_hex, read_ipv6_complete, read_ipv6_sound}
use Rattle.std.proofs.NetLemmas.Texts.{AllSegments}
use Rattle.pol_addr.specs.Address.{Addr, IsAddr, addr_of_groups, or_else, read_addr, read_v4, read_v6}
use Rattle.pol_addr.specs.Grammar.{WritesAddr, WritesGroups, WritesHex, WritesMore, WritesOctets, WritesV6}
use Rattle.pol_addr.specs.Grammar.WritesV6.{eight, fewer}
use Rattle.pol_addr.specs.Grammar.WritesAddr.{dotted, hex}
use Rattle.pol_addr.proofs.Bytes.{has, has_back, has_front, lacks_back, lacks_both, lacks_front}
use Rattle.pol_addr.proofs.Texts.{IsAddr-octets, dotted_from_writes, none_from, read_v4_complete, read_v4_none, read_v4_sound, whole_value-some, whole_value-sound}

-- ---- the grammar in std's words, where no text ends in an IPv4 address
more_to_std : (ipv4 : Bool) (groups text : List ℕ) → WritesMore text groups → IsGroupsAfter ipv4 (58 ∷ []) text groups
more_to_std ipv4 [] text h = h
more_to_std ipv4 (group ∷ groups) text h = inl (h.0, h.1, h.2, h.3, more_to_std ipv4 groups h.1 h.4)

to_std : (ipv4 : Bool) (groups text : List ℕ) → WritesGroups text groups → IsGroups ipv4 text groups
to_std ipv4 [] text h = h
to_std ipv4 (group ∷ groups) text h = inl (h.0, h.1, h.2, h.3, more_to_std ipv4 groups h.1 h.4)

pub hex_to_std : (text groups : List ℕ) → WritesV6 text groups → IsColonHex text groups
hex_to_std text groups (eight h) = inl (to_std true groups text h.written, h.eight)
hex_to_std text groups (fewer h) = inr (record {
  head_text = h.front_text;
  tail_text = h.back_text;
  head = h.front;
  tail = h.back;
  spelled = h.written;
  head_groups = to_std false h.front h.front_text h.before;
  tail_groups = to_std true h.back h.back_text h.behind;
  room = h.fewer;
  value = h.value;
})

-- an IPv4 address has a dot
dotted_parts : (a b c d : List ℕ) → has 46 (a ++ codes "." ++ b ++ codes "." ++ c ++ codes "." ++ d) ≡ true
dotted_parts a b c d =
    has_front 46 (a ++ codes "." ++ b ++ codes "." ++ c ++ codes ".") d
    (has_front 46 (a ++ codes "." ++ b ++ codes "." ++ c) (codes ".")
    (has_front 46 (a ++ codes "." ++ b ++ codes ".") c
    (has_front 46 (a ++ codes "." ++ b) (codes ".") (has_front 46 (a ++ codes ".") b (has_back 46 a (codes ".") refl)))))

dotted_has_dot : (text octets : List ℕ) → IsDotted text octets → has 46 text ≡ true
dotted_has_dot text octets h =
    rw h.spelled (dotted_parts (decimal h.a) (decimal h.b) (decimal h.c) (decimal h.d))

more_from_std : (ipv4 : Bool) (groups text : List ℕ) → has 46 text ≡ false → IsGroupsAfter ipv4 (58 ∷ []) text groups → WritesMore text groups
more_from_std ipv4 [] text none h = h
more_from_std ipv4 (group ∷ groups) text none (inl h) =
    (h.0, h.1, h.2, h.3, more_from_std ipv4 groups h.1 (lacks_back 46 (58 ∷ h.0) h.1 (sym (ap (has 46) h.2) ∙ none)) h.4)
more_from_std ipv4 (group ∷ groups) text none (inr h) =
    absurd (both_ways (has 46 text) none (ap (has 46) h.3 ∙ has_back 46 (58 ∷ []) h.0 (dotted_has_dot h.0 h.1 h.4)))

from_std : (ipv4 : Bool) (groups text : List ℕ) → has 46 text ≡ false → IsGroups ipv4 text groups → WritesGroups text groups
from_std ipv4 [] text none h = h
from_std ipv4 (group ∷ groups) text none (inl h) =
    (h.0, h.1, h.2, h.3, more_from_std ipv4 groups h.1 (lacks_back 46 h.0 h.1 (sym (ap (has 46) h.2) ∙ none)) h.4)
from_std ipv4 (group ∷ groups) text none (inr h) =
    absurd (both_ways (has 46 text) none (ap (has 46) h.3 ∙ dotted_has_dot h.0 h.1 h.4))

pub hex_from_std : (text groups : List ℕ) → has 46 text ≡ false → IsColonHex text groups → WritesV6 text groups
hex_from_std text groups none (inl h) = eight (record { written = from_std true groups text none h.0; eight = h.1 })
hex_from_std text groups none (inr h) =
    let parts : has 46 (h.head_text ++ codes "::" ++ h.tail_text) ≡ false = sym (ap (has 46) h.spelled) ∙ none in
    let front = lacks_front 46 (h.head_text ++ codes "::") h.tail_text parts in
    fewer (record {
      front_text = h.head_text;
      back_text = h.tail_text;
      front = h.head;
      back = h.tail;
      written = h.spelled;
      before = from_std false h.head h.head_text (lacks_front 46 h.head_text (codes "::") front) h.head_groups;
      behind = from_std true h.tail h.tail_text (lacks_back 46 (h.head_text ++ codes "::") h.tail_text parts) h.tail_groups;
      fewer = h.room;
      value = h.value;
    })

-- ---- what an IPv6 text lacks
module _ (byte : ℕ) (no_digit : 16 ≤ digit_value byte) (no_colon : has byte (58 ∷ 58 ∷ []) ≡ false) where
  lacks_digits : (digits : List ℕ) → AllDigits 16 digits → has byte digits ≡ false
  lacks_digits [] all = refl
  lacks_digits (d ∷ digits) all =
      or_from _ _ (ne_eqb d byte (λ same. let low : digit_value byte < 16 = rw same at all.0 in omega arith)) (lacks_digits digits all.1)

  lacks_more : (groups text : List ℕ) → WritesMore text groups → has byte text ≡ false
  lacks_more [] text h = rw h refl
  lacks_more (group ∷ groups) text h =
      rw h.2 (lacks_both byte (58 ∷ h.0) h.1 (lacks_both byte (58 ∷ []) h.0 (lacks_front byte (58 ∷ []) (58 ∷ []) no_colon) (lacks_digits h.0 h.3.0.0.1)) (lacks_more groups h.1 h.4))

  lacks_groups : (groups text : List ℕ) → WritesGroups text groups → has byte text ≡ false
  lacks_groups [] text h = rw h refl
  lacks_groups (group ∷ groups) text h = rw h.2 (lacks_both byte h.0 h.1 (lacks_digits h.0 h.3.0.0.1) (lacks_more groups h.1 h.4))

  pub lacks_byte : (text groups : List ℕ) → WritesV6 text groups → has byte text ≡ false
  lacks_byte text groups (eight h) = lacks_groups groups text h.written
  lacks_byte text groups (fewer h) =
      rw h.written (
      lacks_both byte (h.front_text ++ codes "::") h.back_text
      (lacks_both byte h.front_text (codes "::") (lacks_groups h.front h.front_text h.before) no_colon)
      (lacks_groups h.back h.back_text h.behind)
      )

pub lacks_dot : (text groups : List ℕ) → WritesV6 text groups → has 46 text ≡ false
lacks_dot = lacks_byte 46 (omega arith) refl

-- ---- the groups have 16 bits
group_small : (digits : List ℕ) (group : ℕ) → IsGroup digits group → group < 2 ^ 16
group_small digits group h =
    let below = digits_value-lt 16 digits h.0.0.1 in
    let most : 16 ^ length digits ≤ 16 ^ 4 = pow-le-pow_right (lit≤ tt) h.1 in
    omega (arith, h.0.1)

more_small : (groups text : List ℕ) → WritesMore text groups → (i : ℕ) → get_or groups i 0 < 2 ^ 16
more_small [] text h i = omega arith
more_small (group ∷ groups) text h zero = group_small h.0 group h.3
more_small (group ∷ groups) text h (suc i) = more_small groups h.1 h.4 i

groups_small : (groups text : List ℕ) → WritesGroups text groups → (i : ℕ) → get_or groups i 0 < 2 ^ 16
groups_small [] text h i = omega arith
groups_small (group ∷ groups) text h zero = group_small h.0 group h.3
groups_small (group ∷ groups) text h (suc i) = more_small groups h.1 h.4 i

small_append : (xs ys : List ℕ) → AllSegments xs → AllSegments ys → (i : ℕ) → get_or (xs ++ ys) i 0 < 2 ^ 16
small_append [] ys h k i = k i
small_append (x ∷ xs) ys h k zero = h 0
small_append (x ∷ xs) ys h k (suc i) = small_append xs ys (λ j. h (suc j)) k i

small_zeros : (n i : ℕ) → get_or (replicate n 0) i 0 < 2 ^ 16
small_zeros zero i = omega arith
small_zeros (suc n) zero = omega arith
small_zeros (suc n) (suc i) = small_zeros n i

hex_small : (text groups : List ℕ) → WritesV6 text groups → AllSegments groups
hex_small text groups (eight h) = groups_small groups text h.written
hex_small text groups (fewer h) =
    rw h.value (
    small_append (h.front ++ replicate (8 - length h.front - length h.back) 0) h.back
    (small_append h.front (replicate (8 - length h.front - length h.back) 0) (groups_small h.front h.front_text h.before) (small_zeros (8 - length h.front - length h.back)))
    (groups_small h.back h.back_text h.behind)
    )

one_more : (n g b : ℕ) → n < b → g < 2 ^ 16 → n * 65536 + g < b * 65536
one_more n g b small small' = omega arith

eight_below : (gs : List ℕ) → AllSegments gs → IsAddr (addr_of_groups gs)
eight_below gs small =
    one_more _ _ (2 ^ 112)
    (one_more _ _ (2 ^ 96) (one_more _ _ (2 ^ 80) (one_more _ _ (2 ^ 64) (one_more _ _ (2 ^ 48) (one_more _ _ (2 ^ 32) (one_more _ _ (2 ^ 16) (small 0) (small 1)) (small 2)) (small 3)) (small 4)) (small 5)) (small 6))
    (small 7)

-- ---- the readers
pub read_v6_complete : (text : List ℕ) (addr : Addr) → WritesHex text addr → read_v6 text ≡ Some addr
unfolding read_v6
read_v6_complete text addr h =
    let read : read_ipv6 text ≡ Some (h.groups, []) = rw append-nil at (read_ipv6_complete text h.groups [] (hex_to_std text h.groups h.written) EndsGroups-nil) in
    rw (lacks_dot text h.groups h.written, whole_value-some (read_ipv6 text) h.groups read) (ap Some (sym h.value))

pub read_v6_sound : (text : List ℕ) (addr : Addr) → read_v6 text ≡ Some addr → WritesHex text addr
unfolding read_v6
read_v6_sound text addr e =
    let (none, read) = cond_none _ _ _ e in
    and_then_some _ (whole_value (read_ipv6 text)) addr read λ groups whole value.
    let (front, split, spelled) = read_ipv6_sound text groups [] (whole_value-sound (read_ipv6 text) groups whole) in
    let same : text ≡ front = split ∙ append-nil front in
    record { groups = groups; written = hex_from_std text groups none (rw same spelled); value = sym (same_Some _ _ value) }

pub read_v6_none : (text : List ℕ) → ((addr : Addr) → ¬ (WritesHex text addr)) → read_v6 text ≡ None
read_v6_none text none = none_from (read_v6 text) (λ addr e. none addr (read_v6_sound text addr e))

abbrev pub addr_of_ipv6 : Ipv6Addr → Addr
addr_of_ipv6 a = addr_of_groups (ipv6_segments a)

-- what the standard library's `parse` answers of a text without a dot is the reading of the text
pub parsed_v6 : {E : Type 0} (text : List ℕ) (r : Result Ipv6Addr E) (o : Option Ipv6Addr) → has 46 text ≡ false → Parses IsIpv6Text text r → o ≡ result_ok r → read_v6 text ≡ option_map addr_of_ipv6 o
parsed_v6 text (Ok a) o none h is =
    rw is (read_v6_complete text (addr_of_ipv6 a) (record { groups = ipv6_segments a; written = hex_from_std text (ipv6_segments a) none h; value = refl }))
parsed_v6 text (Err e) o none h is = rw is (read_v6_none text (λ addr w. h (record { segments = w.groups }) (hex_to_std text w.groups w.written)))

-- a text with a dot is not read
pub read_v6-dot : (text : List ℕ) → has 46 text ≡ true → read_v6 text ≡ None
unfolding read_v6
read_v6-dot text some = rw some refl

-- ---- both families
not_both : (text : List ℕ) (addr other : Addr) → WritesHex text addr → WritesOctets text other → ⊥
not_both text addr other h k = IsDotted-not_colon_hex text _ h.groups (dotted_from_writes text other k) (hex_to_std text h.groups h.written)

pub read_addr_complete : (text : List ℕ) (addr : Addr) → WritesAddr text addr → read_addr text ≡ Some addr
unfolding read_addr
read_addr_complete text addr (dotted h) = rw (read_v4_complete text addr h) refl
read_addr_complete text addr (hex h) = rw (read_v4_none text (λ other k. not_both text addr other h k)) (read_v6_complete text addr h)

from_either : (text : List ℕ) (addr : Addr) (o : Option Addr) → read_v4 text ≡ o → or_else o (read_v6 text) ≡ Some addr → WritesAddr text addr
from_either text addr None is e = hex (read_v6_sound text addr e)
from_either text addr (Some own) is e = dotted (read_v4_sound text addr (is ∙ e))

pub read_addr_sound : (text : List ℕ) (addr : Addr) → read_addr text ≡ Some addr → WritesAddr text addr
unfolding read_addr
read_addr_sound text addr e = from_either text addr (read_v4 text) refl e

pub read_addr_none : (text : List ℕ) → ((addr : Addr) → ¬ (WritesAddr text addr)) → read_addr text ≡ None
read_addr_none text none = none_from (read_addr text) (λ addr e. none addr (read_addr_sound text addr e))

-- an answer that is the reading of the text has the grammar's value, or there is none
pub some_writes : (text : List ℕ) (r : Option Addr) → r ≡ read_addr text → IfSome r (WritesAddr text)
some_writes text None is = tt
some_writes text (Some addr) is = read_addr_sound text addr (sym is)

pub none_writes : (text : List ℕ) (r : Option Addr) → r ≡ read_addr text → IfNone r ((addr : Addr) → ¬ (WritesAddr text addr))
none_writes text None is = λ addr h. none-some addr (is ∙ read_addr_complete text addr h)
none_writes text (Some addr) is = tt

pub writes_one_addr : (text : List ℕ) (a b : Addr) → WritesAddr text a → WritesAddr text b → a ≡ b
writes_one_addr text a b h k = same_Some a b (sym (read_addr_complete text a h) ∙ read_addr_complete text b k)

pub IsAddr-writes : (text : List ℕ) (addr : Addr) → WritesAddr text addr → IsAddr addr
IsAddr-writes text addr (dotted h) = IsAddr-octets text addr h
IsAddr-writes text addr (hex h) = rw h.value (eight_below h.groups (hex_small text h.groups h.written))
