-- A script whose lines are texts of JSON values is read as these values say, where their names ascend.
use Rattle.std.proofs.Common.{◌≡◌, ℕ, ◌^◌, ◌&&◌, nat_lt, nat_le, Bool, true, false, List, [], ◌∷◌, map, Some, None, nat_cmp, ok_or, refl, ap, ◌∙◌}
use Rattle.std.proofs.lemmas.Bool.{and_parts, leb-true, ltb-true}
use Rattle.std.proofs.lemmas.Str.{is_utf8-from_IsUtf8}
use Rattle.std.specs.Prelude.{if◌then◌else◌}
use Rattle.std.specs.Cmp.Lexicographic.{slice_cmp}
use Rattle.std.specs.List.{flat_map, list_all}
use Rattle.std.specs.Ordering.{is_lt}
use Rattle.std.specs.declared.cmp.Ordering.{Ordering}
use Rattle.std.specs.declared.cmp.Ordering.TheVariants as order
use Rattle.json.proofs.Printed.Utf8.{are_ascii, IsUtf8-are_ascii}
use Rattle.serde_json.specs.Data.{Num, unsigned, negative, float, Data, null, boolean, number, string, array, object, Items, no_items, item, Members, no_members, member, depth}
use Rattle.serde_json.specs.Read.{max_depth, read}
use Rattle.serde_json.specs.Written.{compact_text}
use Rattle.document_laws.proofs.TextRead.{IsPlain, ItemsPlain, MembersPlain, text_again}
use Rattle.pol_json.specs.Look.{IsBelow, ItemsAscend, MembersAscend, NamesAscend}
use Rattle.pol_script.specs.Reading.{is_object, json_of, reading_of, read_object}
use Rattle.pol_script.specs.Steps.{◌>>=◌, only}
use Rattle.pol_script.specs.declared.line_fault.LineFault.TheVariants as fault
use Rattle.pol_script.proofs.ScriptLaws.{again}
use Rattle.pol_script.specs.Lines.{ended, is_one_line}
use Rattle.pol_answer.specs.Text.{texts_of}
use Rattle.pol_run.specs.Run.{readings_of}
use Rattle.pol_run.specs.Serial.{serial_answers}
use Rattle.answer_examples.specs.Answered.{answered, by_default}

-- ---- such values, by tests that compute

abbrev pub is_whole : Num → Bool
is_whole (unsigned n) = nat_lt n (2 ^ 64)
is_whole (negative z) = false
is_whole (float x) = false

abbrev pub is_below : List ℕ → Members → Bool
is_below name no_members = true
is_below name (member key d ms) = is_lt (slice_cmp nat_cmp name key) && is_below name ms

abbrev mutual
  pub is_written : Data → Bool
  is_written null = true
  is_written (boolean b) = true
  is_written (number n) = is_whole n
  is_written (string s) = true
  is_written (array ds) = items_written ds
  is_written (object ms) = members_written ms

  pub items_written : Items → Bool
  items_written no_items = true
  items_written (item d ds) = is_written d && items_written ds

  pub members_written : Members → Bool
  members_written no_members = true
  members_written (member name d ms) = is_written d && (is_below name ms && members_written ms)

is_less : (o : Ordering) → is_lt o ≡ true → o ≡ order.Less
is_less order.Less is = refl
is_less order.Equal is = absurd (let wrong : false ≡ true = is in cc)
is_less order.Greater is = absurd (let wrong : false ≡ true = is in cc)

below_by : (name : List ℕ) (ms : Members) → is_below name ms ≡ true → IsBelow name ms
below_by name no_members is = tt
below_by name (member key d ms) is =
    let both = and_parts (is_lt (slice_cmp nat_cmp name key)) (is_below name ms) is in
    (is_less (slice_cmp nat_cmp name key) both.0, below_by name ms both.1)

whole_by : (n : Num) → is_whole n ≡ true → IsPlain (number n)
whole_by (unsigned n) is = ltb-true n (2 ^ 64) is
whole_by (negative z) is = absurd (let wrong : false ≡ true = is in cc)
whole_by (float x) is = absurd (let wrong : false ≡ true = is in cc)

mutual
  plain_by : (d : Data) → is_written d ≡ true → IsPlain d
  plain_by null is = tt
  plain_by (boolean b) is = tt
  plain_by (number n) is = whole_by n is
  plain_by (string s) is = tt
  plain_by (array ds) is = items_plain ds is
  plain_by (object ms) is = members_plain ms is

  items_plain : (ds : Items) → items_written ds ≡ true → ItemsPlain ds
  items_plain no_items is = tt
  items_plain (item d ds) is = let both = and_parts (is_written d) (items_written ds) is in (plain_by d both.0, items_plain ds both.1)

  members_plain : (ms : Members) → members_written ms ≡ true → MembersPlain ms
  members_plain no_members is = tt
  members_plain (member name d ms) is =
      let parts = and_parts (is_written d) (is_below name ms && members_written ms) is in
      let more = and_parts (is_below name ms) (members_written ms) parts.1 in
      (plain_by d parts.0, members_plain ms more.1)

mutual
  ascend_by : (d : Data) → is_written d ≡ true → NamesAscend d
  ascend_by null is = tt
  ascend_by (boolean b) is = tt
  ascend_by (number n) is = tt
  ascend_by (string s) is = tt
  ascend_by (array ds) is = items_ascend ds is
  ascend_by (object ms) is = members_ascend ms is

  items_ascend : (ds : Items) → items_written ds ≡ true → ItemsAscend ds
  items_ascend no_items is = tt
  items_ascend (item d ds) is = let both = and_parts (is_written d) (items_written ds) is in (ascend_by d both.0, items_ascend ds both.1)

  members_ascend : (ms : Members) → members_written ms ≡ true → MembersAscend ms
  members_ascend no_members is = tt
  members_ascend (member name d ms) is =
      let parts = and_parts (is_written d) (is_below name ms && members_written ms) is in
      let more = and_parts (is_below name ms) (members_written ms) parts.1 in
      (ascend_by d parts.0, below_by name ms more.0, members_ascend ms more.1)

-- ---- scripts

abbrev pub is_shallow : Data → Bool
is_shallow d = nat_le (depth d) max_depth

-- a line of a script that is read as the object
abbrev pub is_line_of : Data → Bool
is_line_of d = is_written d && (is_shallow d && (is_object d && (are_ascii (compact_text d) && is_one_line (compact_text d))))

line_read : (d : Data) → is_line_of d ≡ true → reading_of (compact_text d) ≡ read_object d
line_read d good =
    let (written, n1) = and_parts (is_written d) (is_shallow d && (is_object d && (are_ascii (compact_text d) && is_one_line (compact_text d)))) good in
    let (shallow, n2) = and_parts (is_shallow d) (is_object d && (are_ascii (compact_text d) && is_one_line (compact_text d))) n1 in
    let (form, n3) = and_parts (is_object d) (are_ascii (compact_text d) && is_one_line (compact_text d)) n2 in
    let (ascii, plain) = and_parts (are_ascii (compact_text d)) (is_one_line (compact_text d)) n3 in
    let found : json_of (compact_text d) ≡ Some d =
    ap (λ (b : Bool). if b then read (compact_text d) else None) (is_utf8-from_IsUtf8 (compact_text d) (IsUtf8-are_ascii (compact_text d) ascii))
    ∙ text_again d (plain_by d written) (ascend_by d written) (leb-true (depth d) max_depth shallow) in
    let one : only is_object (json_of (compact_text d)) ≡ Some d =
    ap (only is_object) found ∙ ap (λ (b : Bool). if b then Some d else None) form in
    ap (λ o. ok_or o fault.Json >>= read_object) one

one_line : (d : Data) → is_line_of d ≡ true → is_one_line (compact_text d) ≡ true
one_line d good =
    let (written, n1) = and_parts (is_written d) (is_shallow d && (is_object d && (are_ascii (compact_text d) && is_one_line (compact_text d)))) good in
    let (shallow, n2) = and_parts (is_shallow d) (is_object d && (are_ascii (compact_text d) && is_one_line (compact_text d))) n1 in
    let (form, n3) = and_parts (is_object d) (are_ascii (compact_text d) && is_one_line (compact_text d)) n2 in
    (and_parts (are_ascii (compact_text d)) (is_one_line (compact_text d)) n3).1

lines_plain : (ds : List Data) → list_all is_line_of ds ≡ true → list_all is_one_line (map compact_text ds) ≡ true
lines_plain [] good = refl
lines_plain (d ∷ ds) good =
    let (here, rest) = and_parts (is_line_of d) (list_all is_line_of ds) good in
    λ i. one_line d here i && lines_plain ds rest i

lines_read : (ds : List Data) → list_all is_line_of ds ≡ true → map reading_of (map compact_text ds) ≡ map read_object ds
lines_read [] good = refl
lines_read (d ∷ ds) good =
    let (here, rest) = and_parts (is_line_of d) (list_all is_line_of ds) good in
    λ i. line_read d here i ∷ lines_read ds rest i

-- what the lines of a script read as
pub script_read : (ds : List Data) (script : List ℕ) → script ≡ flat_map ended (map compact_text ds) → list_all is_line_of ds ≡ true
    → readings_of script ≡ map read_object ds
script_read ds script is good =
    ap readings_of is ∙ ap (map reading_of) (again (map compact_text ds) (lines_plain ds good)) ∙ lines_read ds good

-- and how they are answered
pub answers_by : (ds : List Data) (script bytes : List ℕ) → script ≡ flat_map ended (map compact_text ds) → list_all is_line_of ds ≡ true
    → texts_of (serial_answers by_default (map read_object ds)) ≡ bytes → answered script ≡ bytes
answers_by ds script bytes is good answers =
    ap (λ readings. texts_of (serial_answers by_default readings)) (script_read ds script is good) ∙ answers
