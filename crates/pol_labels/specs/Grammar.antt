-- The grammar of label texts, as a relation by cases: what a text is a text of. It says nothing of how one is read.
-- Cilium, "Terminology", labels. Profile: the bytes, and that no source is `any`.
use Rattle.std.specs.Prelude.{◌≡◌, ◌≢◌, ℕ, Bool, not, ◌&&◌, List, [], ◌∷◌, ◌++◌, codes, IsTrue}
use Rattle.std.specs.List.{list_all}
use Rattle.std.specs.Char.{is_ascii_graphic}
use Rattle.pol_labels.specs.declared.label.Label.{Label}
use Rattle.pol_labels.specs.LabelText.{is_equals_sign, is_colon}

-- a byte that may stand before the `=`
abbrev pub is_name_byte : ℕ → Bool
is_name_byte byte = is_ascii_graphic byte && not (is_equals_sign byte)

-- a byte that may stand before the first `:`
abbrev pub is_source_byte : ℕ → Bool
is_source_byte byte = is_name_byte byte && not (is_colon byte)

-- a source: at least one byte, no `:` or `=`, and not `any`
pub record IsSource (source : List ℕ) : Type 0 where
  pub bytes : IsTrue (list_all is_source_byte source)
  pub some : source ≢ []
  pub not_any : source ≢ codes "any"

-- a key: at least one byte, and no `=`
pub record IsKey (key : List ℕ) : Type 0 where
  pub bytes : IsTrue (list_all is_name_byte key)
  pub some : key ≢ []

-- a key that stands without a source: no `:` either
pub record IsBareKey (key : List ℕ) : Type 0 where
  pub bytes : IsTrue (list_all is_source_byte key)
  pub some : key ≢ []

-- a value: any bytes from 0x21 to 0x7E, or none
abbrev pub IsValue : List ℕ → Type 0
IsValue value = IsTrue (list_all is_ascii_graphic value)

-- `source:key=value`, the text that a label is printed as
abbrev pub label_text : Label → List ℕ
label_text label = label.source ++ 58 ∷ (label.key ++ 61 ∷ label.value)

-- the text is one of the label
pub data IsTextOf (text : List ℕ) (label : Label) : Type 0 where
  -- source:key=value
  whole : IsSource label.source → IsKey label.key → IsValue label.value
      → text ≡ label_text label → IsTextOf text label
  -- source:key
  no_value : IsSource label.source → IsKey label.key → label.value ≡ []
      → text ≡ label.source ++ 58 ∷ label.key → IsTextOf text label
  -- key=value
  no_source : label.source ≡ codes "unspec" → IsBareKey label.key → IsValue label.value
      → text ≡ label.key ++ 61 ∷ label.value → IsTextOf text label
  -- key
  key_alone : label.source ≡ codes "unspec" → IsBareKey label.key → label.value ≡ []
      → text ≡ label.key → IsTextOf text label
