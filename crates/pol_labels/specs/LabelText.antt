-- How a label is read from its text, `source:key=value`.
-- Cilium, "Terminology", labels: a label text has an optional source before a colon. Profile: the bytes that may stand in it,
-- and that no label has the source `any`.
use Rattle.std.specs.Prelude.{ℕ, Bool, not, ◌&&◌, ◌==◌, nat_lt, List, length, codes, Option, Some, None, if◌then◌else◌}
use Rattle.std.specs.List.{list_any, list_all, before_first, after_first}
use Rattle.std.specs.Char.{is_ascii_graphic}
use Rattle.std.specs.Str.{bytes_eq}
use Rattle.pol_labels.specs.declared.label.Label.{Label}

abbrev pub is_equals_sign : ℕ → Bool
is_equals_sign byte = byte == 61

abbrev pub is_colon : ℕ → Bool
is_colon byte = byte == 58

-- source and key: what stands before the first `=`, or the whole text where there is none
abbrev pub name_part : List ℕ → List ℕ
name_part text = before_first is_equals_sign text

-- the value: what stands after the first `=`, or nothing where there is none
abbrev pub value_part : List ℕ → List ℕ
value_part text = after_first is_equals_sign text

-- the source: what stands before the first `:` of the name, and `unspec` where there is none
abbrev pub source_part : List ℕ → List ℕ
source_part name = if list_any is_colon name then before_first is_colon name else codes "unspec"

-- the key: what stands after the first `:` of the name, and all of it where there is none
abbrev pub key_part : List ℕ → List ℕ
key_part name = if list_any is_colon name then after_first is_colon name else name

-- the label that a text would give
abbrev pub label_parts : List ℕ → Label
label_parts text = record {
  source = source_part (name_part text);
  key = key_part (name_part text);
  value = value_part text;
}

-- a source that a label may have
abbrev pub allows_source : List ℕ → Bool
allows_source source = nat_lt 0 (length source) && not (bytes_eq source (codes "any"))

-- a label's text: its bytes are 0x21 to 0x7E, its key has a byte, and its source is neither empty nor `any`
abbrev pub is_readable : List ℕ → Bool
is_readable text =
    list_all is_ascii_graphic text
    && (nat_lt 0 (length (key_part (name_part text))) && allows_source (source_part (name_part text)))

-- the label of a text, and none where the text is bad
abbrev pub read_label : List ℕ → Option Label
read_label text = if is_readable text then Some (label_parts text) else None
