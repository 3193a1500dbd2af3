-- The name of a policy in its key has only bytes of names, of either kind of documents.
use Rattle.std.proofs.Common.{◌≡◌, ℕ, Bool, true, false, ◌==◌, ◌||◌, List, [], ◌∷◌, ◌++◌, length, drop, refl, sym, subst}
use Rattle.std.specs.Cmp.Derive.{both_true}
use Rattle.std.specs.List.{list_all, starts_with}
use Rattle.std.proofs.lemmas.Bool.Decides.{Decides-eqb}
use Rattle.std.proofs.lemmas.Slice.Eq.{starts_is}
use Rattle.pol_json.specs.Texts.{has_name_length, is_between, is_digit, is_dns_byte, is_dns_name, is_lowercase, is_name_byte}
use Rattle.pol_netpol.specs.Document.{name_front}
use Rattle.pol_script.proofs.ScriptLaws.{both_parts}
use Rattle.pol_script.specs.Names.{is_applied_name, is_network_name}

-- a weaker test holds of each as well
pub all_weaker : {A : Type 0} (one two : A → Bool) → ((x : A) → one x ≡ true → two x ≡ true) → (xs : List A) → list_all one xs ≡ true → list_all two xs ≡ true
all_weaker one two weaker [] all = refl
all_weaker one two weaker (x ∷ xs) all =
    let parts = both_parts (one x) (list_all one xs) all in
    both_true (weaker x parts.0) (all_weaker one two weaker xs parts.1)

-- each test of a name's byte in a document is one of those of a byte of names
tests_weaker : (lowercase capital digit dot underscore dash slash : Bool) → ((lowercase || digit) || (dot || (dash || false))) ≡ true
    → (((lowercase || capital) || digit) || (dot || (underscore || (dash || (slash || false))))) ≡ true
tests_weaker true capital digit dot underscore dash slash is = refl
tests_weaker false true digit dot underscore dash slash is = refl
tests_weaker false false true dot underscore dash slash is = refl
tests_weaker false false false true underscore dash slash is = refl
tests_weaker false false false false true dash slash is = refl
tests_weaker false false false false false true slash is = refl
tests_weaker false false false false false false slash is = absurd cc

byte_weaker : (byte : ℕ) → is_dns_byte byte ≡ true → is_name_byte byte ≡ true
byte_weaker byte is = tests_weaker (is_lowercase byte) (is_between 65 90 byte) (is_digit byte) (46 == byte) (95 == byte) (45 == byte) (47 == byte) is

dns_bytes : (name : List ℕ) → is_dns_name name ≡ true → list_all is_name_byte name ≡ true
dns_bytes name is = all_weaker is_dns_byte is_name_byte byte_weaker name (both_parts (has_name_length name) (list_all is_dns_byte name) is).1

network_bytes : (name : List ℕ) → is_network_name name ≡ true → list_all is_name_byte name ≡ true
network_bytes name is =
    let parts = both_parts (starts_with (λ a b. a == b) name name_front) (is_dns_name (drop (length name_front) name)) is in
    let whole : name ≡ name_front ++ drop (length name_front) name = (starts_is Decides-eqb name name_front true (sym parts.0)).0 refl in
    subst (λ text. list_all is_name_byte text ≡ true) (sym whole) (dns_bytes (drop (length name_front) name) parts.1)

by_kind : (is_dns : Bool) (name : List ℕ) → is_dns_name name ≡ is_dns → (is_dns || is_network_name name) ≡ true → list_all is_name_byte name ≡ true
by_kind true name dns is = dns_bytes name dns
by_kind false name dns is = network_bytes name is

pub name_bytes : (name : List ℕ) → is_applied_name name ≡ true → list_all is_name_byte name ≡ true
name_bytes name is = by_kind (is_dns_name name) name refl is
