-- The words of a line: which bytes they have, and that they tell the entry.
use Rattle.std.proofs.Common.{◌≡◌, ◌≢◌, ℕ, zero, suc, ◌<◌, ◌^◌, ◌==◌, nat_lt, not, true, false, List, [], ◌∷◌, ◌++◌, codes, length, get_or, decimal, Bor, Option, Some, None, IfSome, IfNone, Result, Ok, Err, MatchResult, refl, sym, ap, subst, ◌∙◌, inl, inr, append_assoc, arith}
use Rattle.std.specs.List.{list_all}
use Rattle.std.specs.Result.{result_ok}
use Rattle.std.specs.Str.{IsAscii}
use Rattle.std.specs.Str.Parse.{AllDigits, ParsesUnsigned, digits_value}
use Rattle.std.proofs.lemmas.Bool.{and_parts, cases_lt, eq-eqb, le-ltb}
use Rattle.std.proofs.lemmas.Fmt.{IsAscii-decimal, decimal_digit, decimal_injective, decimal_is_IsNumeral, decimal-digits_value, digits_decimal, first_decimal}
use Rattle.std.proofs.lemmas.List.{get_or_default}
use Rattle.std.proofs.lemmas.List.Elements.{All-append, All-cons, Contains-get_or}
use Rattle.std.proofs.lemmas.Str.{IsAscii-append}
use Rattle.std.proofs.lemmas.Str.Ascii.{IsAscii-nil}
use Rattle.std.proofs.lemmas.Str.Parse.{IsNumeralModel, not_in_digits, numerals_by_value, parse_plain, tells_digits}
use Rattle.std.proofs.lemmas.Str.Pattern.{IsSplitOnceResult, split_after, split_parts}
use Rattle.pol_data.proofs.Members.{list_all-in}
use Rattle.pol_ports.specs.declared.Direction.{Direction}
use Rattle.pol_ports.specs.declared.Direction.TheVariants.{Ingress, Egress}
use Rattle.pol_ports.specs.declared.PortPrefix.{PortPrefix}
use Rattle.pol_ports.proofs.Blocks.{prefix_same}
use Rattle.pol_mapkey.specs.declared.KeyProto.{KeyProto}
use Rattle.pol_mapkey.specs.declared.KeyProto.TheVariants.{Every, Tcp, Udp, Sctp}
use Rattle.pol_mapkey.specs.declared.Kind.{Kind}
use Rattle.pol_mapkey.specs.declared.Kind.TheVariants.{Allow, Deny}
use Rattle.pol_mapkey.specs.Entries.{Entry}
use Rattle.pol_mapkey.proofs.Keys.{key_same}
use Rattle.pol_audit.specs.Text.{IsKept, Lacks, direction_word, entry_words, kind_word, line_of, port_text, proto_word, said_words, spaced}

-- ---- bytes that a text lacks
pub lacks_by : (c : ℕ) (xs : List ℕ) → list_all (λ b. not (b == c)) xs ≡ true → Lacks c xs
lacks_by c xs t i d below is =
    let p = list_all-in (λ b. not (b == c)) xs t (get_or xs i d) (Contains-get_or xs i d below) in
    let off : not (get_or xs i d == c) ≡ false = ap not (eq-eqb (get_or xs i d) c is) in
    let wrong : true ≡ false = sym p ∙ off in cc

-- the same by index
pub lacks_at : (c : ℕ) (xs : List ℕ) → Lacks c xs → (i : ℕ) → i < length xs → get_or xs i 0 ≢ c
lacks_at c xs lacks i below = lacks i 0 below

pub lacks_from : (c : ℕ) (xs : List ℕ) → ((i : ℕ) → i < length xs → get_or xs i 0 ≢ c) → Lacks c xs
lacks_from c xs each i d below = subst (λ b. b ≢ c) (get_or_default xs i 0 d below) (each i below)

digits_model : IsNumeralModel (AllDigits 10) (digits_value 10)
digits_model = numerals_by_value _ tells_digits

pub decimal_lacks : (c n : ℕ) → c < 48 → n < 2 ^ 64 → Lacks c (decimal n)
decimal_lacks c n low small = lacks_from c (decimal n) (λ i below. not_in_digits digits_model (decimal n) c (digits_decimal digits_model n small) (λ within. (let from = within.0 in omega arith)) i below)

-- words have neither a space nor a newline byte
pub direction_plain : (dir : Direction) → Lacks 32 (direction_word dir) × Lacks 10 (direction_word dir)
direction_plain Ingress = (lacks_by 32 (codes "ingress") refl, lacks_by 10 (codes "ingress") refl)
direction_plain Egress = (lacks_by 32 (codes "egress") refl, lacks_by 10 (codes "egress") refl)

pub proto_plain : (proto : KeyProto) → Lacks 32 (proto_word proto) × Lacks 10 (proto_word proto)
proto_plain Every = (lacks_by 32 (codes "every") refl, lacks_by 10 (codes "every") refl)
proto_plain Tcp = (lacks_by 32 (codes "TCP") refl, lacks_by 10 (codes "TCP") refl)
proto_plain Udp = (lacks_by 32 (codes "UDP") refl, lacks_by 10 (codes "UDP") refl)
proto_plain Sctp = (lacks_by 32 (codes "SCTP") refl, lacks_by 10 (codes "SCTP") refl)

kind_plain : (kind : Kind) → Lacks 10 (kind_word kind)
kind_plain Allow = lacks_by 10 (codes "allow") refl
kind_plain Deny = lacks_by 10 (codes "deny") refl

joined_lacks : (c m : ℕ) (a b : List ℕ) → m ≢ c → Lacks c a → Lacks c b → Lacks c (a ++ m ∷ b)
joined_lacks c m a b other front back = All-append (λ n. n ≢ c) a (m ∷ b) front (All-cons (λ n. n ≢ c) m b other back)

pub port_lacks : (c : ℕ) → c < 47 → (port : PortPrefix) → port.bits < 2 ^ 16 → Lacks c (port_text port)
port_lacks c low port small =
    let short = port.short in
    joined_lacks c 47 (decimal port.bits) (decimal port.len) (λ is. omega arith) (decimal_lacks c port.bits (omega arith) (omega arith)) (decimal_lacks c port.len (omega arith) (omega arith))

pub words_lack_newline : (e : Entry) → IsKept e → Lacks 10 (entry_words e)
words_lack_newline e kept =
    let id = kept.0 in
    joined_lacks 10 32 (direction_word e.0.dir) _ (λ is. omega arith) (direction_plain e.0.dir).1
    (joined_lacks 10 32 (decimal e.0.id) _ (λ is. omega arith) (decimal_lacks 10 e.0.id (omega arith) (omega arith))
    (joined_lacks 10 32 (proto_word e.0.proto) _ (λ is. omega arith) (proto_plain e.0.proto).1
    (joined_lacks 10 32 (port_text e.0.port) (kind_word e.1) (λ is. omega arith) (port_lacks 10 (omega arith) e.0.port kept.1) (kind_plain e.1))))

-- ---- a text that is cut at the first of a byte
heads : (x y : ℕ) (xs ys : List ℕ) → x ∷ xs ≡ y ∷ ys → x ≡ y
heads x y xs ys is = cc

tails : (x y : ℕ) (xs ys : List ℕ) → x ∷ xs ≡ y ∷ ys → xs ≡ ys
tails x y xs ys is = cc

later : (c x : ℕ) (xs : List ℕ) → Lacks c (x ∷ xs) → Lacks c xs
later c x xs lacks i d below = lacks (suc i) d (omega arith)

pub cut_tells : (c : ℕ) (a b a' b' : List ℕ) → Lacks c a → Lacks c a' → a ++ c ∷ b ≡ a' ++ c ∷ b' → (a ≡ a') × (b ≡ b')
cut_tells c [] b [] b' lacks lacks' is = (refl, tails c c b b' is)
cut_tells c [] b (x ∷ a') b' lacks lacks' is = absurd (lacks' 0 0 (omega arith) (sym (heads c x b (a' ++ c ∷ b') is)))
cut_tells c (x ∷ a) b [] b' lacks lacks' is = absurd (lacks 0 0 (omega arith) (heads x c (a ++ c ∷ b) b' is))
cut_tells c (x ∷ a) b (y ∷ a') b' lacks lacks' is =
    let rest = cut_tells c a b a' b' (later c x a lacks) (later c y a' lacks') (tails x y (a ++ c ∷ b) (a' ++ c ∷ b') is) in
    ((let head = heads x y (a ++ c ∷ b) (a' ++ c ∷ b') is in λ i. head i ∷ rest.0 i), rest.1)

-- a text with that byte in it doesn't lack it
has_it : (c : ℕ) (a b : List ℕ) → Lacks c (a ++ c ∷ b) → ⊥
has_it c [] b lacks = lacks 0 0 (omega arith) refl
has_it c (x ∷ a) b lacks = has_it c a b (later c x (a ++ c ∷ b) lacks)

-- ---- words tell what they stand for
first : (a b : List ℕ) → a ≡ b → get_or a 0 0 ≡ get_or b 0 0
first a b is = ap (λ xs. get_or xs 0 0) is

pub direction_tells : (a b : Direction) → direction_word a ≡ direction_word b → a ≡ b
direction_tells Ingress Ingress is = refl
direction_tells Ingress Egress is = absurd (let at = first (codes "ingress") (codes "egress") is in omega arith)
direction_tells Egress Ingress is = absurd (let at = first (codes "egress") (codes "ingress") is in omega arith)
direction_tells Egress Egress is = refl

pub proto_tells : (a b : KeyProto) → proto_word a ≡ proto_word b → a ≡ b
proto_tells Every Every is = refl
proto_tells Tcp Tcp is = refl
proto_tells Udp Udp is = refl
proto_tells Sctp Sctp is = refl
proto_tells Every Tcp is = absurd (let at = first (codes "every") (codes "TCP") is in omega arith)
proto_tells Every Udp is = absurd (let at = first (codes "every") (codes "UDP") is in omega arith)
proto_tells Every Sctp is = absurd (let at = first (codes "every") (codes "SCTP") is in omega arith)
proto_tells Tcp Every is = absurd (let at = first (codes "TCP") (codes "every") is in omega arith)
proto_tells Tcp Udp is = absurd (let at = first (codes "TCP") (codes "UDP") is in omega arith)
proto_tells Tcp Sctp is = absurd (let at = first (codes "TCP") (codes "SCTP") is in omega arith)
proto_tells Udp Every is = absurd (let at = first (codes "UDP") (codes "every") is in omega arith)
proto_tells Udp Tcp is = absurd (let at = first (codes "UDP") (codes "TCP") is in omega arith)
proto_tells Udp Sctp is = absurd (let at = first (codes "UDP") (codes "SCTP") is in omega arith)
proto_tells Sctp Every is = absurd (let at = first (codes "SCTP") (codes "every") is in omega arith)
proto_tells Sctp Tcp is = absurd (let at = first (codes "SCTP") (codes "TCP") is in omega arith)
proto_tells Sctp Udp is = absurd (let at = first (codes "SCTP") (codes "UDP") is in omega arith)

pub kind_tells : (a b : Kind) → kind_word a ≡ kind_word b → a ≡ b
kind_tells Allow Allow is = refl
kind_tells Allow Deny is = absurd (let at = first (codes "allow") (codes "deny") is in omega arith)
kind_tells Deny Allow is = absurd (let at = first (codes "deny") (codes "allow") is in omega arith)
kind_tells Deny Deny is = refl

-- ---- a line has a newline byte, and is ASCII
pub no_line : (e : Entry) (bytes behind : List ℕ) → Lacks 10 bytes → bytes ≢ line_of e ++ behind
no_line e bytes behind lacks is = has_it 10 (entry_words e) behind (subst (Lacks 10) (is ∙ append_assoc (entry_words e) (codes "\n") behind) lacks)

below_by : (x : ℕ) → nat_lt x 128 ≡ true → x < 128
below_by x t = elim (cases_lt x 128) [
  | inl below ↦ below
  | inr above ↦ absurd (let wrong : true ≡ false = sym t ∙ le-ltb x 128 above in let e : ⊥ = cc in e)
]

ascii_by : (xs : List ℕ) → list_all (λ b. nat_lt b 128) xs ≡ true → IsAscii xs
ascii_by [] t i = IsAscii-nil i
ascii_by (x ∷ xs) t zero = below_by x (and_parts (nat_lt x 128) (list_all (λ b. nat_lt b 128) xs) t).0
ascii_by (x ∷ xs) t (suc i) = ascii_by xs (and_parts (nat_lt x 128) (list_all (λ b. nat_lt b 128) xs) t).1 i

direction_ascii : (dir : Direction) → IsAscii (direction_word dir)
direction_ascii Ingress = ascii_by (codes "ingress") refl
direction_ascii Egress = ascii_by (codes "egress") refl

proto_ascii : (proto : KeyProto) → IsAscii (proto_word proto)
proto_ascii Every = ascii_by (codes "every") refl
proto_ascii Tcp = ascii_by (codes "TCP") refl
proto_ascii Udp = ascii_by (codes "UDP") refl
proto_ascii Sctp = ascii_by (codes "SCTP") refl

kind_ascii : (kind : Kind) → IsAscii (kind_word kind)
kind_ascii Allow = ascii_by (codes "allow") refl
kind_ascii Deny = ascii_by (codes "deny") refl

spaced_ascii : (a b : List ℕ) → IsAscii a → IsAscii b → IsAscii (spaced a b)
spaced_ascii a b front back = IsAscii-append a (codes " " ++ b) front (IsAscii-append (codes " ") b (ascii_by (codes " ") refl) back)

port_ascii : (port : PortPrefix) → port.bits < 2 ^ 16 → IsAscii (port_text port)
port_ascii port small =
    let short = port.short in
    IsAscii-append (decimal port.bits) (codes "/" ++ decimal port.len) (IsAscii-decimal port.bits (omega arith))
    (IsAscii-append (codes "/") (decimal port.len) (ascii_by (codes "/") refl) (IsAscii-decimal port.len (omega arith)))

pub words_ascii : (e : Entry) → IsKept e → IsAscii (entry_words e)
words_ascii e kept =
    let id = kept.0 in
    spaced_ascii (direction_word e.0.dir) _ (direction_ascii e.0.dir)
    (spaced_ascii (decimal e.0.id) _ (IsAscii-decimal e.0.id (omega arith))
    (spaced_ascii (proto_word e.0.proto) _ (proto_ascii e.0.proto)
    (spaced_ascii (port_text e.0.port) (kind_word e.1) (port_ascii e.0.port kept.1) (kind_ascii e.1))))

-- ---- the words of an entry tell it
pub port_tells : (p q : PortPrefix) → p.bits < 2 ^ 16 → q.bits < 2 ^ 16 → port_text p ≡ port_text q → p ≡ q
port_tells p q small small' is =
    let short = p.short in let short' = q.short in
    let parts = cut_tells 47 (decimal p.bits) (decimal p.len) (decimal q.bits) (decimal q.len) (decimal_lacks 47 p.bits (omega arith) (omega arith)) (decimal_lacks 47 q.bits (omega arith) (omega arith)) is in
    prefix_same p q (decimal_injective p.bits q.bits (omega arith) (omega arith) parts.0) (decimal_injective p.len q.len (omega arith) (omega arith) parts.1)

pub said_tells : (id id' : ℕ) (proto proto' : KeyProto) (port port' : PortPrefix) (kind kind' : Kind) → id < 2 ^ 32 → id' < 2 ^ 32 → port.bits < 2 ^ 16 → port'.bits < 2 ^ 16
    → said_words id proto port kind ≡ said_words id' proto' port' kind' → (id ≡ id') × (proto ≡ proto') × (port ≡ port') × (kind ≡ kind')
said_tells id id' proto proto' port port' kind kind' low low' small small' is =
    let two = cut_tells 32 (decimal id) (spaced (proto_word proto) (spaced (port_text port) (kind_word kind))) (decimal id') (spaced (proto_word proto') (spaced (port_text port') (kind_word kind')))
    (decimal_lacks 32 id (omega arith) (omega arith)) (decimal_lacks 32 id' (omega arith) (omega arith)) is in
    let three = cut_tells 32 (proto_word proto) (spaced (port_text port) (kind_word kind)) (proto_word proto') (spaced (port_text port') (kind_word kind')) (proto_plain proto).0 (proto_plain proto').0 two.1 in
    let four = cut_tells 32 (port_text port) (kind_word kind) (port_text port') (kind_word kind') (port_lacks 32 (omega arith) port small) (port_lacks 32 (omega arith) port' small') three.1 in
    (decimal_injective id id' (omega arith) (omega arith) two.0, proto_tells proto proto' three.0, port_tells port port' small small' four.0, kind_tells kind kind' four.1)

pub words_tell : (e f : Entry) → IsKept e → IsKept f → entry_words e ≡ entry_words f → e ≡ f
words_tell e f kept kept' is =
    let one = cut_tells 32 (direction_word e.0.dir) (said_words e.0.id e.0.proto e.0.port e.1) (direction_word f.0.dir) (said_words f.0.id f.0.proto f.0.port f.1) (direction_plain e.0.dir).0 (direction_plain f.0.dir).0 is in
    let rest = said_tells e.0.id f.0.id e.0.proto f.0.proto e.0.port f.0.port e.1 f.1 kept.0 kept'.0 kept.1 kept'.1 one.1 in
    let key = key_same e.0 f.0 (direction_tells e.0.dir f.0.dir one.0) rest.0 rest.1 rest.2 in
    λ i. (key i, rest.3 i)

-- so does its line, and where it ends
pub line_tells : (e f : Entry) (a b : List ℕ) → IsKept e → IsKept f → line_of e ++ a ≡ line_of f ++ b → (e ≡ f) × (a ≡ b)
line_tells e f a b kept kept' is =
    let parts = cut_tells 10 (entry_words e) a (entry_words f) b (words_lack_newline e kept) (words_lack_newline f kept')
    (sym (append_assoc (entry_words e) (codes "\n") a) ∙ is ∙ append_assoc (entry_words f) (codes "\n") b) in
    (words_tell e f kept kept' parts.0, parts.1)

-- ---- numbers
-- `parse` at a text without a sign or a leading zero reads what `decimal` writes
pub parse_plain_decimal : {E : Type 0} (text : List ℕ) (r : Result ℕ E) → get_or text 0 0 ≢ 43 → (get_or text 0 0 ≡ 48 → length text ≡ 1) → ParsesUnsigned 32 10 text r
    → MatchResult r (λ n. (n < 2 ^ 32) × (text ≡ decimal n)) (λ _. (n : ℕ) → n < 2 ^ 32 → text ≢ decimal n)
parse_plain_decimal {E = E} text (Ok n) no_plus no_zero h =
    let ((digits, some, fits), value) = parse_plain digits_model {E = E} 32 text (Ok n) h no_plus in
    (omega (arith, fits, value), sym (decimal-digits_value digits_model text digits some no_zero (omega (arith, fits))) ∙ ap decimal (sym value))
parse_plain_decimal {E = E} text (Err e) no_plus no_zero h = λ n small written.
    let (numeral, value) = decimal_is_IsNumeral n (omega arith) in
    parse_plain digits_model {E = E} 32 text (Err e) h no_plus (rw written (numeral.1, numeral.0, omega (arith, value)))

-- a text with a sign or a leading zero is no number
pub not_plain : (text : List ℕ) (n : ℕ) → n < 2 ^ 32 → text ≡ decimal n → (get_or text 0 0 ≢ 43) × (get_or text 0 0 ≡ 48 → length text ≡ 1)
not_plain text n small written =
    elim (cases_lt 0 n) [
      | inl more ↦
          let first : 48 < get_or text 0 0 = rw written (first_decimal n more (omega arith)) in
          (λ e. omega arith, λ e. absurd (omega arith))
      | inr none ↦
          let zero' : n ≡ 0 = omega arith in
          let one : text ≡ 48 ∷ [] = written ∙ ap decimal zero' ∙ decimal_digit 0 (omega arith) in
          rw one (λ e. omega arith, λ e. refl)
    ]

pub number_some : {E : Type 0} (text : List ℕ) (r : Result ℕ E) (o : Option ℕ) → o ≡ result_ok r → get_or text 0 0 ≢ 43 → (get_or text 0 0 ≡ 48 → length text ≡ 1) → ParsesUnsigned 32 10 text r → IfSome o (λ n. text ≡ decimal n)
number_some {E = E} text (Ok n) o is no_plus no_zero h = subst (λ p. IfSome p (λ m. text ≡ decimal m)) (sym is) (parse_plain_decimal {E = E} text (Ok n) no_plus no_zero h).1
number_some {E = E} text (Err e) o is no_plus no_zero h = subst (λ p. IfSome p (λ m. text ≡ decimal m)) (sym is) tt

pub number_none : {E : Type 0} (text : List ℕ) (r : Result ℕ E) (o : Option ℕ) → o ≡ result_ok r → get_or text 0 0 ≢ 43 → (get_or text 0 0 ≡ 48 → length text ≡ 1) → ParsesUnsigned 32 10 text r → IfNone o ((n : ℕ) → n < 2 ^ 32 → text ≢ decimal n)
number_none {E = E} text (Ok n) o is no_plus no_zero h = subst (λ p. IfNone p ((m : ℕ) → m < 2 ^ 32 → text ≢ decimal m)) (sym is) tt
number_none {E = E} text (Err e) o is no_plus no_zero h = subst (λ p. IfNone p ((m : ℕ) → m < 2 ^ 32 → text ≢ decimal m)) (sym is) (parse_plain_decimal {E = E} text (Err e) no_plus no_zero h)

-- ---- a text that was cut at a byte
module _ (c : ℕ) (text : List ℕ) (low : c < 128) where
  -- it is what stands before that byte, the byte, and what stands behind it
  pub cut_some : (x : Bor (List ℕ) × Bor (List ℕ)) → IsSplitOnceResult c text (Some x) → text ≡ x.0.now ++ c ∷ x.1.now
  cut_some x cut = (split_parts c text (Some x) cut low).0

  -- so where it is two words with that byte between them, these are the words
  pub cut_words : (x : Bor (List ℕ) × Bor (List ℕ)) (front back : List ℕ) → IsSplitOnceResult c text (Some x) → Lacks c front → text ≡ front ++ c ∷ back → (x.0.now ≡ front) × (x.1.now ≡ back)
  cut_words x front back cut lacks is = split_after c text front back (Some x) cut low is (lacks_at c front lacks)

  -- and one that wasn't cut isn't such words
  pub cut_none : (front back : List ℕ) → IsSplitOnceResult c text None → Lacks c front → text ≢ front ++ c ∷ back
  cut_none front back cut lacks is = split_after c text front back None cut low is (lacks_at c front lacks)

pub number_fits : {E : Type 0} (text : List ℕ) (r : Result ℕ E) (o : Option ℕ) → o ≡ result_ok r → get_or text 0 0 ≢ 43 → (get_or text 0 0 ≡ 48 → length text ≡ 1) → ParsesUnsigned 32 10 text r → IfSome o (λ n. n < 2 ^ 32)
number_fits {E = E} text (Ok n) o is no_plus no_zero h = subst (λ p. IfSome p (λ m. m < 2 ^ 32)) (sym is) (parse_plain_decimal {E = E} text (Ok n) no_plus no_zero h).0
number_fits {E = E} text (Err e) o is no_plus no_zero h = subst (λ p. IfSome p (λ m. m < 2 ^ 32)) (sym is) tt
