-- The forms of names, and how they are printed.
use Rattle.std.specs.Prelude.{ℕ, ◌==◌, ◌&&◌, ◌||◌, nat_le, if◌then◌else◌, Bool, List, length, codes, map}
use Rattle.std.specs.List.{list_all, list_any}

abbrev pub is_between : ℕ → ℕ → ℕ → Bool
is_between first last byte = nat_le first byte && nat_le byte last

abbrev pub is_lowercase : ℕ → Bool
is_lowercase byte = is_between 97 122 byte

abbrev pub is_digit : ℕ → Bool
is_digit byte = is_between 48 57 byte

abbrev pub is_letter : ℕ → Bool
is_letter byte = is_lowercase byte || is_between 65 90 byte

abbrev pub is_one_of : List ℕ → ℕ → Bool
is_one_of bytes byte = list_any (λ b. b == byte) bytes

-- a byte of the name of a policy or a namespace: a to z, 0 to 9, `.` and `-` (Kubernetes, "Object Names")
abbrev pub is_dns_byte : ℕ → Bool
is_dns_byte byte = is_lowercase byte || is_digit byte || is_one_of (codes ".-") byte

-- a byte of a script's name or of a label's key and value: letters, digits, `.`, `_`, `-` and `/`
abbrev pub is_name_byte : ℕ → Bool
is_name_byte byte = is_letter byte || is_digit byte || is_one_of (codes "._-/") byte

-- the greatest length of a name, in bytes
abbrev pub name_max : ℕ
name_max = 253

abbrev pub has_name_length : List ℕ → Bool
has_name_length text = nat_le 1 (length text) && nat_le (length text) name_max

-- the name of a policy or a namespace
abbrev pub is_dns_name : List ℕ → Bool
is_dns_name text = has_name_length text && list_all is_dns_byte text

-- a name of the script
abbrev pub is_name : List ℕ → Bool
is_name text = has_name_length text && list_all is_name_byte text

-- a byte of a name that is printed; one outside 0x21 to 0x7E is printed as `?`
abbrev pub printable_byte : ℕ → ℕ
printable_byte byte = if nat_le 33 byte && nat_le byte 126 then byte else 63

abbrev pub printable : List ℕ → List ℕ
printable bytes = map printable_byte bytes
