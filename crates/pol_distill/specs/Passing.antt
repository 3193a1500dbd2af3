-- Entries in the order of their keys, and what is asked of one on the way through them.
use Rattle.std.specs.Prelude.{◌≡◌, ◌⊎◌, Bool, true, false, if◌then◌else◌, List, [], ◌∷◌, Option, None, Some}
use Rattle.std.specs.declared.cmp.Ordering.TheVariants.{Less}
use Rattle.pol_mapkey.specs.Entries.{Entry, is_deny}
use Rattle.pol_mapkey.specs.MapKey.{key_cmp, same_key, strictly_covers}
use Rattle.pol_mapkey.specs.declared.MapKey.{MapKey}

-- the first entry's key is less than the second's, or both have one key and no allow follows a deny
abbrev pub Follows : Entry → Entry → Type 0
Follows a b = (key_cmp a.0 b.0 ≡ Less) ⊎ ((a.0 ≡ b.0) × (is_deny a.1 ≡ true → is_deny b.1 ≡ true))

-- the entries are in the order of their keys, with denies last among those of one key
abbrev pub Rises : List Entry → Type 0
Rises [] = Unit {0}
Rises (x ∷ []) = Unit {0}
Rises (x ∷ y ∷ ys) = Follows x y × Rises (y ∷ ys)

-- the first of the entries has the key
abbrev pub begins_with : MapKey → List Entry → Bool
begins_with key [] = false
begins_with key (entry ∷ entries) = same_key entry.0 key

-- the key lies strictly under the deny, if there is one
abbrev pub is_covered : Option MapKey → MapKey → Bool
is_covered None key = false
is_covered (Some deny) key = strictly_covers deny key

-- the last deny that was kept, once this entry is
abbrev pub last_deny : Option MapKey → Entry → Option MapKey
last_deny deny entry = if is_deny entry.1 then Some entry.0 else deny
