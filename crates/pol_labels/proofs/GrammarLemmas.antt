-- The reading of a label text meets the grammar, both ways.
use Rattle.std.proofs.Common.{◌≡◌, ◌≢◌, ℕ, List, [], ◌∷◌, ◌++◌, length, refl, sym, ◌∙◌, ap, subst, arith, Bool, true, false, cond, not, ◌&&◌, ◌⊎◌, inl, inr, append_assoc}
use Rattle.std.specs.Prelude.{nat_lt, Some, None, codes}
use Rattle.std.specs.List.{list_any, list_all, before_first, after_first}
use Rattle.std.specs.Char.{is_ascii_graphic}
use Rattle.std.specs.Cmp.{first_so, second_so}
use Rattle.std.specs.Cmp.Lexicographic.{bytes_decides}
use Rattle.std.specs.Str.{bytes_eq}
use Rattle.std.proofs.lemmas.Bool.{and_from}
use Rattle.std.proofs.lemmas.Bool.Decides.{Decides-ltb, Decides-eqb}
use Rattle.std.proofs.lemmas.List.Folds.{list_all-append}
use Rattle.pol_data.proofs.Filters.{list_all-weaker, list_all-both}
use Rattle.pol_labels.specs.declared.label.Label.{Label}
use Rattle.pol_labels.specs.LabelText.{is_equals_sign, is_colon, name_part, value_part, source_part, key_part, label_parts, allows_source, is_readable, read_label}
use Rattle.pol_labels.specs.Grammar.{is_name_byte, is_source_byte, IsSource, IsKey, IsBareKey, IsValue, label_text, IsTextOf, whole, no_value, no_source, key_alone}
use Rattle.pol_labels.proofs.Cuts.{none_pass, before_first-cut, after_first-cut, list_any-cut, before_first-none, after_first-none, list_any-none_pass, none_pass-from_list_any, none_pass-before_first, cut_at_first}

graphic_name : (x : ℕ) → is_name_byte x ≡ true → is_ascii_graphic x ≡ true
graphic_name x is = first_so (is_ascii_graphic x) (not (is_equals_sign x)) is

name_source : (x : ℕ) → is_source_byte x ≡ true → is_name_byte x ≡ true
name_source x is = first_so (is_name_byte x) (not (is_colon x)) is

no_equals : (xs : List ℕ) → list_all is_name_byte xs ≡ true → none_pass is_equals_sign xs ≡ true
no_equals = list_all-weaker is_name_byte (λ x. not (is_equals_sign x)) (λ x is. second_so (is_ascii_graphic x) (not (is_equals_sign x)) is)

no_colon : (xs : List ℕ) → list_all is_source_byte xs ≡ true → none_pass is_colon xs ≡ true
no_colon = list_all-weaker is_source_byte (λ x. not (is_colon x)) (λ x is. second_so (is_name_byte x) (not (is_colon x)) is)

names : (xs : List ℕ) → list_all is_source_byte xs ≡ true → list_all is_name_byte xs ≡ true
names = list_all-weaker is_source_byte is_name_byte name_source

graphics : (xs : List ℕ) → list_all is_name_byte xs ≡ true → list_all is_ascii_graphic xs ≡ true
graphics = list_all-weaker is_name_byte is_ascii_graphic graphic_name

-- all of two parts and the byte between them
all_around : (p : ℕ → Bool) (xs : List ℕ) (y : ℕ) (ys : List ℕ) → list_all p xs ≡ true → p y ≡ true → list_all p ys ≡ true → list_all p (xs ++ y ∷ ys) ≡ true
all_around p xs y ys front here back =
    list_all-append p xs (y ∷ ys) ∙ and_from _ _ front (and_from (p y) (list_all p ys) here back)

some_bytes : (xs : List ℕ) → xs ≢ [] → nat_lt 0 (length xs) ≡ true
some_bytes [] some = absurd (some refl)
some_bytes (x ∷ xs) some = (Decides-ltb 0 (length (x ∷ xs))).1 (omega arith)

no_bytes : (xs : List ℕ) → nat_lt 0 (length xs) ≡ true → xs ≢ []
no_bytes xs some none = let e : true ≡ false = sym some ∙ ap (λ ys. nat_lt 0 (length ys)) none in cc

not_same : (xs ys : List ℕ) → xs ≢ ys → not (bytes_eq xs ys) ≡ true
not_same xs ys apart =
    elim (bytes_eq xs ys) as (λ b. bytes_eq xs ys ≡ b → not b ≡ true) [
      | true ↦ λ same. absurd (apart ((bytes_decides xs ys).0 same))
      | false ↦ λ _. refl
    ] refl

apart_from_not_same : (xs ys : List ℕ) → not (bytes_eq xs ys) ≡ true → xs ≢ ys
apart_from_not_same xs ys apart same =
    let e : true ≡ false = sym apart ∙ ap not ((bytes_decides xs ys).1 same) in cc

allows_source-from : (source : List ℕ) → source ≢ [] → source ≢ codes "any" → allows_source source ≡ true
allows_source-from source some not_any = and_from _ _ (some_bytes source some) (not_same source (codes "any") not_any)

-- ---- from the grammar to the reading

source_part-cut : (source key : List ℕ) → list_all is_source_byte source ≡ true → source_part (source ++ 58 ∷ key) ≡ source
source_part-cut source key bytes =
    ap (λ b. cond b (before_first is_colon (source ++ 58 ∷ key)) (codes "unspec")) (list_any-cut is_colon source 58 key refl)
    ∙ before_first-cut is_colon source 58 key (no_colon source bytes) refl

key_part-cut : (source key : List ℕ) → list_all is_source_byte source ≡ true → key_part (source ++ 58 ∷ key) ≡ key
key_part-cut source key bytes =
    ap (λ b. cond b (after_first is_colon (source ++ 58 ∷ key)) (source ++ 58 ∷ key)) (list_any-cut is_colon source 58 key refl)
    ∙ after_first-cut is_colon source 58 key (no_colon source bytes) refl

source_part-bare : (key : List ℕ) → list_all is_source_byte key ≡ true → source_part key ≡ codes "unspec"
source_part-bare key bytes = ap (λ b. cond b (before_first is_colon key) (codes "unspec")) (list_any-none_pass is_colon key (no_colon key bytes))

key_part-bare : (key : List ℕ) → list_all is_source_byte key ≡ true → key_part key ≡ key
key_part-bare key bytes = ap (λ b. cond b (after_first is_colon key) key) (list_any-none_pass is_colon key (no_colon key bytes))

-- a text whose parts are these is read as the label of these parts
reads : (text name : List ℕ) (label : Label) → name_part text ≡ name → value_part text ≡ label.value
    → source_part name ≡ label.source → key_part name ≡ label.key
    → list_all is_ascii_graphic text ≡ true → label.key ≢ [] → allows_source label.source ≡ true → read_label text ≡ Some label
reads text name label is_name is_value is_source is_key graphic some allowed =
    let source : source_part (name_part text) ≡ label.source = ap source_part is_name ∙ is_source in
    let key : key_part (name_part text) ≡ label.key = ap key_part is_name ∙ is_key in
    let parts : label_parts text ≡ label = λ i. record { source = source i; key = key i; value = is_value i } in
    let readable : is_readable text ≡ true =
    and_from _ _ graphic (and_from _ _ (ap (λ k. nat_lt 0 (length k)) key ∙ some_bytes label.key some) (ap allows_source source ∙ allowed)) in
    λ i. cond (readable i) (Some (parts i)) None

reads_name : (label : Label) → IsSource label.source → IsKey label.key → list_all is_name_byte (label.source ++ 58 ∷ label.key) ≡ true
reads_name label source key = all_around is_name_byte label.source 58 label.key (names label.source source.bytes) refl key.bytes

-- a text of a label is read as it
pub read_label-from_IsTextOf : (text : List ℕ) (label : Label) → IsTextOf text label → read_label text ≡ Some label
read_label-from_IsTextOf text label (whole source key value is) =
    let name = reads_name label source key in
    let around : text ≡ (label.source ++ 58 ∷ label.key) ++ 61 ∷ label.value =
    is ∙ sym (append_assoc label.source (58 ∷ label.key) (61 ∷ label.value)) in
    reads text (label.source ++ 58 ∷ label.key) label
    (ap name_part around ∙ before_first-cut is_equals_sign (label.source ++ 58 ∷ label.key) 61 label.value (no_equals (label.source ++ 58 ∷ label.key) name) refl)
    (ap value_part around ∙ after_first-cut is_equals_sign (label.source ++ 58 ∷ label.key) 61 label.value (no_equals (label.source ++ 58 ∷ label.key) name) refl)
    (source_part-cut label.source label.key source.bytes)
    (key_part-cut label.source label.key source.bytes)
    (ap (list_all is_ascii_graphic) around ∙ all_around is_ascii_graphic (label.source ++ 58 ∷ label.key) 61 label.value (graphics (label.source ++ 58 ∷ label.key) name) refl value)
    key.some
    (allows_source-from label.source source.some source.not_any)
read_label-from_IsTextOf text label (no_value source key value is) =
    let name = reads_name label source key in
    reads text (label.source ++ 58 ∷ label.key) label
    (ap name_part is ∙ before_first-none is_equals_sign (label.source ++ 58 ∷ label.key) (no_equals (label.source ++ 58 ∷ label.key) name))
    (ap value_part is ∙ (after_first-none is_equals_sign (label.source ++ 58 ∷ label.key) (no_equals (label.source ++ 58 ∷ label.key) name) ∙ sym value))
    (source_part-cut label.source label.key source.bytes)
    (key_part-cut label.source label.key source.bytes)
    (ap (list_all is_ascii_graphic) is ∙ graphics (label.source ++ 58 ∷ label.key) name)
    key.some
    (allows_source-from label.source source.some source.not_any)
read_label-from_IsTextOf text label (no_source source key value is) =
    let name = names label.key key.bytes in
    reads text label.key label
    (ap name_part is ∙ before_first-cut is_equals_sign label.key 61 label.value (no_equals label.key name) refl)
    (ap value_part is ∙ after_first-cut is_equals_sign label.key 61 label.value (no_equals label.key name) refl)
    (source_part-bare label.key key.bytes ∙ sym source)
    (key_part-bare label.key key.bytes)
    (ap (list_all is_ascii_graphic) is ∙ all_around is_ascii_graphic label.key 61 label.value (graphics label.key name) refl value)
    key.some
    (ap allows_source source)
read_label-from_IsTextOf text label (key_alone source key value is) =
    let name = names label.key key.bytes in
    reads text label.key label
    (ap name_part is ∙ before_first-none is_equals_sign label.key (no_equals label.key name))
    (ap value_part is ∙ (after_first-none is_equals_sign label.key (no_equals label.key name) ∙ sym value))
    (source_part-bare label.key key.bytes ∙ sym source)
    (key_part-bare label.key key.bytes)
    (ap (list_all is_ascii_graphic) is ∙ graphics label.key name)
    key.some
    (ap allows_source source)

-- ---- from the reading to the grammar

-- all of a list is all of its two parts
all_front : (p : ℕ → Bool) (xs : List ℕ) (y : ℕ) (ys : List ℕ) → list_all p (xs ++ y ∷ ys) ≡ true → list_all p xs ≡ true
all_front p xs y ys all = first_so (list_all p xs) (list_all p (y ∷ ys)) (sym (list_all-append p xs (y ∷ ys)) ∙ all)

all_back : (p : ℕ → Bool) (xs : List ℕ) (y : ℕ) (ys : List ℕ) → list_all p (xs ++ y ∷ ys) ≡ true → list_all p ys ≡ true
all_back p xs y ys all =
    second_so (p y) (list_all p ys) (second_so (list_all p xs) (list_all p (y ∷ ys)) (sym (list_all-append p xs (y ∷ ys)) ∙ all))

-- the text is its name, an `=` and its value
record WithValue (text : List ℕ) : Type 0 where
  is : text ≡ name_part text ++ 61 ∷ value_part text
  name : list_all is_name_byte (name_part text) ≡ true
  value : IsValue (value_part text)

-- the text is its name
record WithoutValue (text : List ℕ) : Type 0 where
  is : text ≡ name_part text
  name : list_all is_name_byte (name_part text) ≡ true
  value : value_part text ≡ []

value_cases : (text : List ℕ) → list_all is_ascii_graphic text ≡ true → WithValue text ⊎ WithoutValue text
value_cases text graphic =
    elim (list_any is_equals_sign text) as (λ b. list_any is_equals_sign text ≡ b → WithValue text ⊎ WithoutValue text) [
      | true ↦ λ some.
          let cut = cut_at_first is_equals_sign text some in
          let byte : cut.0 ≡ 61 = (Decides-eqb cut.0 61).0 cut.1 in
          let is : text ≡ name_part text ++ 61 ∷ value_part text = cut.2 ∙ ap (λ y. name_part text ++ y ∷ value_part text) byte in
          let all : list_all is_ascii_graphic (name_part text ++ 61 ∷ value_part text) ≡ true = sym (ap (list_all is_ascii_graphic) is) ∙ graphic in
          inl (record {
            is = is;
            name = list_all-both is_ascii_graphic (λ x. not (is_equals_sign x)) (name_part text) (all_front is_ascii_graphic (name_part text) 61 (value_part text) all) (none_pass-before_first is_equals_sign text);
            value = all_back is_ascii_graphic (name_part text) 61 (value_part text) all;
          })
      | false ↦ λ none.
          let nowhere = none_pass-from_list_any is_equals_sign text none in
          let name : name_part text ≡ text = before_first-none is_equals_sign text nowhere in
          inr (record {
            is = sym name;
            name = ap (list_all is_name_byte) name ∙ list_all-both is_ascii_graphic (λ x. not (is_equals_sign x)) text graphic nowhere;
            value = after_first-none is_equals_sign text nowhere;
          })
    ] refl

-- the name is a source, a `:` and a key
record WithSource (name : List ℕ) : Type 0 where
  is : name ≡ source_part name ++ 58 ∷ key_part name
  source : list_all is_source_byte (source_part name) ≡ true
  key : list_all is_name_byte (key_part name) ≡ true

-- the name is a key
record WithoutSource (name : List ℕ) : Type 0 where
  source : source_part name ≡ codes "unspec"
  key : key_part name ≡ name
  bytes : list_all is_source_byte name ≡ true

source_cases : (name : List ℕ) → list_all is_name_byte name ≡ true → WithSource name ⊎ WithoutSource name
source_cases name bytes =
    elim (list_any is_colon name) as (λ b. list_any is_colon name ≡ b → WithSource name ⊎ WithoutSource name) [
      | true ↦ λ some.
          let cut = cut_at_first is_colon name some in
          let byte : cut.0 ≡ 58 = (Decides-eqb cut.0 58).0 cut.1 in
          let source : source_part name ≡ before_first is_colon name = ap (λ b. cond b (before_first is_colon name) (codes "unspec")) some in
          let key : key_part name ≡ after_first is_colon name = ap (λ b. cond b (after_first is_colon name) name) some in
          let is : name ≡ source_part name ++ 58 ∷ key_part name =
          cut.2 ∙ sym (λ i. source i ++ sym byte i ∷ key i) in
          let all : list_all is_name_byte (source_part name ++ 58 ∷ key_part name) ≡ true = sym (ap (list_all is_name_byte) is) ∙ bytes in
          inl (record {
            is = is;
            source = list_all-both is_name_byte (λ x. not (is_colon x)) (source_part name) (all_front is_name_byte (source_part name) 58 (key_part name) all)
                (ap (none_pass is_colon) source ∙ none_pass-before_first is_colon name);
            key = all_back is_name_byte (source_part name) 58 (key_part name) all;
          })
      | false ↦ λ none.
          inr (record {
            source = ap (λ b. cond b (before_first is_colon name) (codes "unspec")) none;
            key = ap (λ b. cond b (after_first is_colon name) name) none;
            bytes = list_all-both is_name_byte (λ x. not (is_colon x)) name bytes (none_pass-from_list_any is_colon name none);
          })
    ] refl

IsTextOf-label_parts : (text : List ℕ) → is_readable text ≡ true → IsTextOf text (label_parts text)
IsTextOf-label_parts text readable = by_value (value_cases text graphic)
  where
    graphic : list_all is_ascii_graphic text ≡ true
    graphic = first_so (list_all is_ascii_graphic text) _ readable

    parts : (nat_lt 0 (length (key_part (name_part text))) && allows_source (source_part (name_part text))) ≡ true
    parts = second_so (list_all is_ascii_graphic text) _ readable

    some_key : key_part (name_part text) ≢ []
    some_key = no_bytes _ (first_so (nat_lt 0 (length (key_part (name_part text)))) _ parts)

    allowed : allows_source (source_part (name_part text)) ≡ true
    allowed = second_so (nat_lt 0 (length (key_part (name_part text)))) _ parts

    is_source : WithSource (name_part text) → IsSource (source_part (name_part text))
    is_source with_source = record {
      bytes = with_source.source;
      some = no_bytes _ (first_so (nat_lt 0 (length (source_part (name_part text)))) _ allowed);
      not_any = apart_from_not_same _ (codes "any") (second_so (nat_lt 0 (length (source_part (name_part text)))) _ allowed);
    }

    is_key : WithSource (name_part text) → IsKey (key_part (name_part text))
    is_key with_source = record { bytes = with_source.key; some = some_key }

    is_bare : WithoutSource (name_part text) → IsBareKey (key_part (name_part text))
    is_bare bare = record { bytes = ap (list_all is_source_byte) bare.key ∙ bare.bytes; some = some_key }

    with_value : WithValue text → WithSource (name_part text) ⊎ WithoutSource (name_part text) → IsTextOf text (label_parts text)
    with_value valued (inl sourced) =
        whole (is_source sourced) (is_key sourced) valued.value
        (valued.is ∙ (ap (λ name. name ++ 61 ∷ value_part text) sourced.is ∙ append_assoc (source_part (name_part text)) (58 ∷ key_part (name_part text)) (61 ∷ value_part text)))
    with_value valued (inr bare) =
        no_source bare.source (is_bare bare) valued.value (valued.is ∙ ap (λ name. name ++ 61 ∷ value_part text) (sym bare.key))

    without_value : WithoutValue text → WithSource (name_part text) ⊎ WithoutSource (name_part text) → IsTextOf text (label_parts text)
    without_value plain (inl sourced) =
        no_value (is_source sourced) (is_key sourced) plain.value (plain.is ∙ sourced.is)
    without_value plain (inr bare) =
        key_alone bare.source (is_bare bare) plain.value (plain.is ∙ sym bare.key)

    by_value : WithValue text ⊎ WithoutValue text → IsTextOf text (label_parts text)
    by_value (inl valued) = with_value valued (source_cases (name_part text) valued.name)
    by_value (inr plain) = without_value plain (source_cases (name_part text) plain.name)

-- what a text is read as, it is a text of
pub IsTextOf-from_read_label : (text : List ℕ) (label : Label) → read_label text ≡ Some label → IsTextOf text label
IsTextOf-from_read_label text label is =
    elim (is_readable text) as (λ b. is_readable text ≡ b → cond b (Some (label_parts text)) None ≡ Some label → IsTextOf text label) [
      | true ↦ λ readable same. let e : label_parts text ≡ label = cc in subst (IsTextOf text) e (IsTextOf-label_parts text readable)
      | false ↦ λ _ same. absurd cc
    ] refl is

-- a text is of one label
pub IsTextOf-one : (text : List ℕ) (a b : Label) → IsTextOf text a → IsTextOf text b → a ≡ b
IsTextOf-one text a b of_a of_b =
    let e : Some a ≡ Some b = sym (read_label-from_IsTextOf text a of_a) ∙ read_label-from_IsTextOf text b of_b in cc

-- a label's printed text is read as it
pub read_label-label_text : (label : Label) → IsSource label.source → IsKey label.key → IsValue label.value → read_label (label_text label) ≡ Some label
read_label-label_text label source key value = read_label-from_IsTextOf (label_text label) label (whole source key value refl)
