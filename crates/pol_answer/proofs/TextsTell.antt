-- The texts of some answers, one behind another, determine the answers.
use Rattle.std.proofs.Common.{◌≡◌, ℕ, Bool, true, false, cond, not, ◌&&◌, ◌==◌, List, [], ◌∷◌, length, map, IsTrue, refl, sym, ap, ap₂, ◌∙◌, arith}
use Rattle.std.specs.Cmp.Derive.{both_true}
use Rattle.std.specs.List.{list_all}
use Rattle.std.proofs.lemmas.Bool.{eqb-true}
use Rattle.pol_json.specs.Texts.{has_name_length, is_dns_byte, is_dns_name, is_name, is_name_byte}
use Rattle.pol_model.specs.declared.answer.FullSlot.{FullSlot}
use Rattle.pol_rule.specs.declared.policy.Place.{Place}
use Rattle.pol_script.specs.Lines.{lines_of, ended, newline, is_newline, is_one_line}
use Rattle.pol_script.specs.Names.{is_applied_name}
use Rattle.pol_script.proofs.KeyNames.{all_weaker, name_bytes}
use Rattle.pol_script.proofs.ScriptLaws.{both_parts, is_other}
use Rattle.pol_answer.specs.Shown.{shown, is_u64, is_applied_key, is_read_place, is_read_slot, has_read_parts}
use Rattle.pol_answer.specs.Text.{answer_words, texts_of, has_plain_key, has_plain_name, has_plain_names}
use Rattle.pol_answer.specs.declared.answer.Answer.{Answer}
use Rattle.pol_answer.specs.declared.answer.Answer.TheVariants as answer
use Rattle.pol_answer.proofs.AnswerLaws.{read_again}
use Rattle.pol_answer.proofs.Rebuilt.{tells}

-- ---- names that are read hold no newline

plain_byte : (test : ℕ → Bool) (byte : ℕ) → test newline ≡ false → test byte ≡ true → not (is_newline byte) ≡ true
plain_byte test byte ends passes =
    ap not (is_other byte (is_newline byte) refl (λ same. let e : true ≡ false = sym passes ∙ ap test same ∙ ends in cc))

plain_text : (test : ℕ → Bool) (text : List ℕ) → test newline ≡ false → list_all test text ≡ true → is_one_line text ≡ true
plain_text test [] ends all = refl
plain_text test (byte ∷ text) ends all =
    let parts = both_parts (test byte) (list_all test text) all in
    both_true (plain_byte test byte ends parts.0) (plain_text test text ends parts.1)

plain_dns : (text : List ℕ) → is_dns_name text ≡ true → is_one_line text ≡ true
plain_dns text is = plain_text is_dns_byte text refl (both_parts (has_name_length text) (list_all is_dns_byte text) is).1

plain_namespace : (cluster_wide : Bool) (text : List ℕ) → cond cluster_wide (length text == 0) (is_dns_name text) ≡ true → is_one_line text ≡ true
plain_namespace true [] is = refl
plain_namespace true (byte ∷ text) is = absurd (omega (arith, eqb-true (length (byte ∷ text)) 0 is))
plain_namespace false text is = plain_dns text is

pub plain_key : (place : Place) → is_applied_key place.key ≡ true → has_plain_key place ≡ true
plain_key place is =
    let names = both_parts (is_applied_name place.key.name) (cond place.key.cluster_wide (length place.key.namespace == 0) (is_dns_name place.key.namespace)) is in
    both_true (plain_namespace place.key.cluster_wide place.key.namespace names.1) (plain_text is_name_byte place.key.name refl (name_bytes place.key.name names.0))

plain_place : (place : Place) → is_read_place place ≡ true → has_plain_key place ≡ true
plain_place place is =
    let numbers = both_parts (is_applied_key place.key && is_u64 place.rule) (is_u64 place.entry) is in
    plain_key place (both_parts (is_applied_key place.key) (is_u64 place.rule) numbers.0).0

pub plain_name : (slot : FullSlot) → is_name slot.name ≡ true → has_plain_name slot ≡ true
plain_name slot is = plain_text is_name_byte slot.name refl (both_parts (has_name_length slot.name) (list_all is_name_byte slot.name) is).1

plain_slot : (slot : FullSlot) → is_read_slot slot ≡ true → has_plain_name slot ≡ true
plain_slot slot is =
    let numbers = both_parts (is_name slot.name && is_u64 slot.revision) (is_u64 slot.count) is in
    plain_name slot (both_parts (is_name slot.name) (is_u64 slot.revision) numbers.0).0

pub plain : (a : Answer) → IsTrue (has_read_parts a) → IsTrue (has_plain_names a)
plain (answer.Committed revision identity) is = refl
plain (answer.Synced revision full) is =
    all_weaker is_read_slot has_plain_name plain_slot full (both_parts (is_u64 revision) (list_all is_read_slot full) is).1
plain (answer.Phase number) is = refl
plain (answer.Verdict revision word) is = refl
plain (answer.NoEndpoint revision) is = refl
plain (answer.NotYet revision) is = refl
plain (answer.Traced revision trace) is =
    let allows = both_parts (is_u64 revision && is_u64 trace.remote && list_all is_read_place trace.denies) (list_all is_read_place trace.allows) is in
    let denies = both_parts (is_u64 revision && is_u64 trace.remote) (list_all is_read_place trace.denies) allows.0 in
    both_true (all_weaker is_read_place has_plain_key plain_place trace.denies denies.1) (all_weaker is_read_place has_plain_key plain_place trace.allows allows.1)
plain (answer.BadLine fault) is = refl
plain (answer.Refused refused) is = refl

-- ---- answer by answer

one_by_one : (a b : List Answer) → list_all has_read_parts a ≡ true → list_all has_read_parts b ≡ true → map answer_words a ≡ map answer_words b
    → map shown a ≡ map shown b
one_by_one [] [] one two same = refl
one_by_one [] (y ∷ b) one two same = absurd cc
one_by_one (x ∷ a) [] one two same = absurd cc
one_by_one (x ∷ a) (y ∷ b) one two same =
    let first : answer_words x ≡ answer_words y = cc in
    let others : map answer_words a ≡ map answer_words b = cc in
    let ones = both_parts (has_read_parts x) (list_all has_read_parts a) one in
    let twos = both_parts (has_read_parts y) (list_all has_read_parts b) two in
    ap₂ (λ (z : Answer) (c : List Answer). z ∷ c) (tells x y ones.0 twos.0 (ap ended first)) (one_by_one a b ones.1 twos.1 others)

pub texts_tell : (a b : List Answer) → IsTrue (list_all has_read_parts a) → IsTrue (list_all has_read_parts b) → texts_of a ≡ texts_of b
    → map shown a ≡ map shown b
texts_tell a b one two same =
    one_by_one a b one two
    (sym (read_again a (all_weaker has_read_parts has_plain_names plain a one)) ∙ ap lines_of same
    ∙ read_again b (all_weaker has_read_parts has_plain_names plain b two))
