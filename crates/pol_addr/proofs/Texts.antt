-- The readers of IPv4 addresses and of lengths read their grammar, and nothing else.
use Rattle.std.proofs.Common.{◌≡◌, ◌≢◌, leb, ℕ, ◌<◌, ◌≤◌, List, [], ◌∷◌, length, get_or, Option, Some, None, option_map, option_and_then, if◌then◌else◌, Result, Ok, Err, MatchResult, slice_index, decimal, refl, sym, ap, ◌∙◌, inl, inr, append-nil, arith, lit≤, ne_eqb, le-leb, leb-true}
use Rattle.std.proofs.lemmas.Option.{none-some, same_Some}
use Rattle.std.proofs.lemmas.Bool.{cases_lt}
use Rattle.std.proofs.lemmas.Fmt.{decimal_is_IsNumeral, first_decimal, decimal_digit, decimal-digits_value}
use Rattle.std.proofs.lemmas.Str.Parse.{IsNumeralModel, numerals_by_value, tells_digits, parse_plain}
use Rattle.std.specs.Str.Parse.{ParsesUnsigned, AllDigits, digits_value}
use Rattle.std.specs.Net.Reader.{Read, read_ipv4, read_octet, whole_value}
use Rattle.std.specs.declared.net.ipv4_addr.Ipv4Addr.{Ipv4Addr}
use Rattle.std.specs.Net.Addr.{ipv4_octets}
use Rattle.std.specs.Net.Grammar.{IsDotted, IsIpv4Text, Parses}
use Rattle.std.specs.Result.{result_ok}
use Rattle.std.proofs.NetLemmas.Options.{and_then_some, cond_some}
use Rattle.std.proofs.NetLemmas.Ipv4.{read_ipv4_sound, read_ipv4_complete, read_octet_sound, read_octet_complete}
use Rattle.pol_addr.specs.Address.{Addr, IsAddr, addr_of_octets, read_v4}
use Rattle.pol_addr.specs.Prefix.{read_len}
use Rattle.pol_addr.specs.Grammar.{WritesOctets}

digits_model : IsNumeralModel (AllDigits 10) (digits_value 10)
digits_model = numerals_by_value _ tells_digits

pub none_from : {A : Type 0} (o : Option A) → ((x : A) → o ≡ Some x → ⊥) → o ≡ None
none_from None none = refl
none_from (Some x) none = absurd (none x refl)

pub whole_value-some : {A : Type 0} (r : Read A) (x : A) → r ≡ Some (x, []) → whole_value r ≡ Some x
whole_value-some r x e = rw e refl

pub whole_value-sound : {A : Type 0} (r : Read A) (x : A) → whole_value r ≡ Some x → r ≡ Some (x, [])
whole_value-sound None x e = absurd (none-some x e)
whole_value-sound (Some (y, [])) x e = ap (λ v. Some (v, [])) (same_Some y x e)
whole_value-sound (Some (y, c ∷ rest)) x e = absurd (none-some x (rw (ne_eqb (length (c ∷ rest)) 0 (omega arith)) at e))

-- the address whose octets these are
abbrev pub addr_of_list : List ℕ → Addr
addr_of_list octets = addr_of_octets (slice_index octets 0) (slice_index octets 1) (slice_index octets 2) (slice_index octets 3)

abbrev pub addr_of_ipv4 : Ipv4Addr → Addr
addr_of_ipv4 a = addr_of_list (ipv4_octets a)

-- std's words for an address text, and the grammar's
pub writes_from_dotted : (text octets : List ℕ) → IsDotted text octets → WritesOctets text (addr_of_list octets)
writes_from_dotted text octets h = rw h.value (record {
  a = h.a;
  b = h.b;
  c = h.c;
  d = h.d;
  octets = (omega (arith, h.fit), omega (arith, h.fit), omega (arith, h.fit), omega (arith, h.fit));
  written = h.spelled;
  value = refl;
})

pub dotted_from_writes : (text : List ℕ) (addr : Addr) (h : WritesOctets text addr) → IsDotted text (h.a ∷ h.b ∷ h.c ∷ h.d ∷ [])
dotted_from_writes text addr h = record {
  a = h.a;
  b = h.b;
  c = h.c;
  d = h.d;
  fit = (omega (arith, h.octets), omega (arith, h.octets), omega (arith, h.octets), omega (arith, h.octets));
  value = refl;
  spelled = h.written;
}

pub read_v4_complete : (text : List ℕ) (addr : Addr) → WritesOctets text addr → read_v4 text ≡ Some addr
unfolding read_v4
read_v4_complete text addr h =
    let octets = h.a ∷ h.b ∷ h.c ∷ h.d ∷ [] in
    let read : read_ipv4 text ≡ Some (octets, []) = rw append-nil at (read_ipv4_complete text octets [] (dotted_from_writes text addr h) (lit≤ tt)) in
    rw (whole_value-some (read_ipv4 text) octets read) (ap Some (sym h.value))

pub read_v4_sound : (text : List ℕ) (addr : Addr) → read_v4 text ≡ Some addr → WritesOctets text addr
unfolding read_v4
read_v4_sound text addr e =
    and_then_some _ (whole_value (read_ipv4 text)) addr e λ octets whole value.
    let (front, split, dotted) = read_ipv4_sound text octets [] (whole_value-sound (read_ipv4 text) octets whole) in
    rw (split, append-nil front, ← same_Some _ _ value) (writes_from_dotted front octets dotted)

pub read_v4_none : (text : List ℕ) → ((addr : Addr) → ¬ (WritesOctets text addr)) → read_v4 text ≡ None
read_v4_none text none = none_from (read_v4 text) (λ addr e. none addr (read_v4_sound text addr e))

-- what the standard library's `parse` answers is the reading of the text
pub parsed_v4 : {E : Type 0} (text : List ℕ) (r : Result Ipv4Addr E) (o : Option Ipv4Addr) → Parses IsIpv4Text text r → o ≡ result_ok r → read_v4 text ≡ option_map addr_of_ipv4 o
parsed_v4 text (Ok a) o h is = rw is (read_v4_complete text (addr_of_ipv4 a) (writes_from_dotted text (ipv4_octets a) h))
parsed_v4 text (Err e) o h is = rw is (read_v4_none text (λ addr w. h (record { octets = w.a ∷ w.b ∷ w.c ∷ w.d ∷ [] }) (dotted_from_writes text addr w)))

pub IsAddr-octets : (text : List ℕ) (addr : Addr) → WritesOctets text addr → IsAddr addr
IsAddr-octets text addr h = rw h.value (omega (arith, h.octets))

-- ---- lengths
pub read_len_at : (most : ℕ) (text : List ℕ) (n : ℕ) → n < 256 → text ≡ decimal n → read_len most text ≡ (if leb n most then Some n else None)
unfolding read_len
read_len_at most text n small written =
    let read : read_octet text ≡ Some (n, []) = rw (written, ← append-nil (decimal n)) (read_octet_complete n [] small (lit≤ tt)) in
    rw (whole_value-some (read_octet text) n read) refl

pub read_len_complete : (most : ℕ) (text : List ℕ) (len : ℕ) → most < 256 → len ≤ most → text ≡ decimal len → read_len most text ≡ Some len
read_len_complete most text len fits small written = read_len_at most text len (omega arith) written ∙ rw (le-leb len most small) refl

pub read_len_sound : (most : ℕ) (text : List ℕ) (len : ℕ) → read_len most text ≡ Some len → (len ≤ most) × (text ≡ decimal len)
unfolding read_len
read_len_sound most text len e =
    and_then_some _ (whole_value (read_octet text)) len e λ n whole kept.
    let (fits, front, stop) = read_octet_sound text [] n (whole_value-sound (read_octet text) n whole) in
    let (small, same) = cond_some (leb n most) n len kept in
    (omega (arith, leb-true n most small, same), front ∙ append-nil (decimal n) ∙ ap decimal same)

-- `parse` at a text without a sign or a leading zero reads what `decimal` writes
pub parse_plain_decimal : {E : Type 0} (text : List ℕ) (r : Result ℕ E) → get_or text 0 0 ≢ 43 → (get_or text 0 0 ≡ 48 → length text ≡ 1) → ParsesUnsigned 8 10 text r → MatchResult r (λ n. (n < 256) × (text ≡ decimal n)) (λ _. (n : ℕ) → n < 256 → text ≢ decimal n)
parse_plain_decimal {E = E} text (Ok n) no_plus no_zero h =
    let ((digits, some, fits), value) = parse_plain digits_model {E = E} 8 text (Ok n) h no_plus in
    (omega (arith, fits, value), sym (decimal-digits_value digits_model text digits some no_zero (omega (arith, fits))) ∙ ap decimal (sym value))
parse_plain_decimal {E = E} text (Err e) no_plus no_zero h = λ n small written.
    let (numeral, value) = decimal_is_IsNumeral n (omega arith) in
    parse_plain digits_model {E = E} 8 text (Err e) h no_plus (rw written (numeral.1, numeral.0, omega (arith, value)))

-- a text with a sign or a leading zero is no decimal number
pub not_plain : (text : List ℕ) (n : ℕ) → n < 256 → text ≡ decimal n → (get_or text 0 0 ≢ 43) × (get_or text 0 0 ≡ 48 → length text ≡ 1)
not_plain text n small written =
    elim (cases_lt 0 n) [
      | inl more ↦
          let first : 48 < get_or text 0 0 = rw written (first_decimal n more (omega arith)) in
          (λ e. omega arith, λ e. absurd (omega arith))
      | inr none ↦
          let zero : n ≡ 0 = omega arith in
          let one : text ≡ 48 ∷ [] = written ∙ ap decimal zero ∙ decimal_digit 0 (omega arith) in
          rw one (λ e. omega arith, λ e. refl)
    ]

-- a length that no text writes is not read
pub read_len_none : (most : ℕ) (text : List ℕ) → ((n : ℕ) → n ≤ most → text ≢ decimal n) → read_len most text ≡ None
read_len_none most text none = none_from (read_len most text) (λ n e. let (small, written) = read_len_sound most text n e in none n small written)

-- what `parse` answers of a plain text is the reading of a length, but for its bound
pub parsed_len : {E : Type 0} (most : ℕ) (text : List ℕ) (r : Result ℕ E) (o : Option ℕ) → most < 256 → get_or text 0 0 ≢ 43 → (get_or text 0 0 ≡ 48 → length text ≡ 1) → ParsesUnsigned 8 10 text r → o ≡ result_ok r → read_len most text ≡ option_and_then (λ n. if leb n most then Some n else None) o
parsed_len {E = E} most text (Ok n) o fits no_plus no_zero h is =
    let (small, written) = parse_plain_decimal {E = E} text (Ok n) no_plus no_zero h in
    rw is (read_len_at most text n small written)
parsed_len {E = E} most text (Err e) o fits no_plus no_zero h is =
    let none = parse_plain_decimal {E = E} text (Err e) no_plus no_zero h in
    rw is (read_len_none most text (λ n small. none n (omega arith)))
