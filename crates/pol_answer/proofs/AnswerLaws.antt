-- The text of each answer is one line.
use Rattle.std.proofs.Common.{◌≡◌, ℕ, zero, suc, ◌+◌, ◌/◌, ◌%◌, ◌≤◌, Bool, true, false, cond, codes, not, ◌&&◌, ◌==◌, nat_le, nat_lt, List, [], ◌∷◌, ◌++◌, map, Option, Some, None, IsTrue, refl, ap, ◌∙◌, arith}
use Rattle.std.specs.Cmp.Derive.{both_true}
use Rattle.std.specs.Fmt.{digits, digits_onto, digit_glyph, decimal}
use Rattle.std.specs.List.{flat_map, list_all}
use Rattle.std.specs.Option.{option_map_or}
use Rattle.std.proofs.lemmas.Bool.{leb-true}
use Rattle.std.proofs.lemmas.List.Folds.{list_all-append}
use Rattle.pol_json.specs.Texts.{printable}
use Rattle.pol_json.specs.declared.fault.DocFault.{DocFault}
use Rattle.pol_json.specs.declared.fault.DocFault.TheVariants as doc
use Rattle.pol_mapkey.specs.declared.Word.{Word}
use Rattle.pol_mapkey.specs.declared.Word.TheVariants.{Allowed, DeniedByRule, DeniedByDefault}
use Rattle.pol_model.specs.declared.answer.Fault.{Fault}
use Rattle.pol_model.specs.declared.answer.Fault.TheVariants as fault
use Rattle.pol_model.specs.declared.answer.FullSlot.{FullSlot}
use Rattle.pol_model.specs.declared.answer.Trace.{Trace}
use Rattle.pol_rule.specs.Causes.{cause_of}
use Rattle.pol_rule.specs.declared.cause.RuleCause.{RuleCause}
use Rattle.pol_rule.specs.declared.cause.RuleCause.TheVariants as rule
use Rattle.pol_rule.specs.declared.policy.Place.{Place}
use Rattle.pol_rule.specs.declared.policy.Section.{Section}
use Rattle.pol_rule.specs.declared.policy.Section.TheVariants as section
use Rattle.pol_answer.specs.Faults.{fault_name, doc_fault_name, cause_name, line_fault_name}
use Rattle.pol_script.specs.Lines.{lines_of, ended, is_newline, is_one_line}
use Rattle.pol_answer.specs.Text.{word_text, section_text, at_text, entry_text, place_text, more_places, places_text, full_slot_text, full_text, fault_place_text, doc_detail, line_detail, identity_text, trace_text, answer_words, texts_of, has_plain_key, has_plain_name, has_plain_names}
use Rattle.pol_answer.specs.declared.answer.Answer.{Answer}
use Rattle.pol_answer.specs.declared.answer.Answer.TheVariants as answer
use Rattle.pol_script.specs.declared.line_fault.LineFault.{LineFault}
use Rattle.pol_script.specs.declared.line_fault.LineFault.TheVariants as line
use Rattle.pol_script.proofs.ScriptLaws.{both_parts, is_other, again}

-- ---- bytes

join : (a b : List ℕ) → is_one_line a ≡ true → is_one_line b ≡ true → is_one_line (a ++ b) ≡ true
join a b one two = list_all-append (λ byte. not (is_newline byte)) a b ∙ both_true one two

above : (byte : ℕ) → 11 ≤ byte → not (is_newline byte) ≡ true
above byte high = rw (is_other byte (is_newline byte) refl (λ e. absurd (omega (arith, e)))) refl

glyph_step : (d : ℕ) (b : Bool) → not (is_newline (cond b (48 + d) (87 + d))) ≡ true
glyph_step d true = above (48 + d) (omega arith)
glyph_step d false = above (87 + d) (omega arith)

digits_step : (b : Bool) (glyph : ℕ) (done more : List ℕ) → not (is_newline glyph) ≡ true → is_one_line done ≡ true → is_one_line more ≡ true
    → is_one_line (cond b (glyph ∷ done) more) ≡ true
digits_step true glyph done more other one rest = both_true other one
digits_step false glyph done more other one rest = rest

digits_line : (k base n : ℕ) (done : List ℕ) → is_one_line done ≡ true → is_one_line (digits_onto k base false n done) ≡ true
digits_line zero base n done one = one
digits_line (suc k) base n done one =
    let d = n % base in
    let other = glyph_step d (nat_lt d 10) in
    digits_step (n / base == 0) (digit_glyph false d) done (digits_onto k base false (n / base) (digit_glyph false d ∷ done)) other one
    (digits_line k base (n / base) (digit_glyph false d ∷ done) (both_true other one))

decimal_line : (n : ℕ) → is_one_line (decimal n) ≡ true
unfolding digits
decimal_line n = digits_line 64 10 n [] refl

printable_step : (byte : ℕ) (b : Bool) → (nat_le 33 byte && nat_le byte 126) ≡ b → not (is_newline (cond b byte 63)) ≡ true
printable_step byte true e = above byte (omega (arith, leb-true 33 byte (both_parts (nat_le 33 byte) (nat_le byte 126) e).0))
printable_step byte false e = refl

printable_line : (bytes : List ℕ) → is_one_line (printable bytes) ≡ true
printable_line [] = refl
printable_line (byte ∷ bytes) = both_true (printable_step byte (nat_le 33 byte && nat_le byte 126) refl) (printable_line bytes)

-- ---- parts

word_line : (word : Word) → is_one_line (word_text word) ≡ true
word_line Allowed = refl
word_line DeniedByRule = refl
word_line DeniedByDefault = refl

section_line : (s : Section) → is_one_line (section_text s) ≡ true
section_line section.Ingress = refl
section_line section.IngressDeny = refl
section_line section.Egress = refl
section_line section.EgressDeny = refl

at_line : (revision : ℕ) → is_one_line (at_text revision) ≡ true
at_line revision = decimal_line revision

entry_line : (s : Section) (entry : ℕ) → is_one_line (entry_text s entry) ≡ true
entry_line s entry = simp (list_all-append, section_line s, decimal_line entry)

place_line : (place : Place) → has_plain_key place ≡ true → is_one_line (place_text place) ≡ true
place_line place plain =
    let key = both_parts (is_one_line place.key.namespace) (is_one_line place.key.name) plain in
    simp (list_all-append, key.0, key.1, decimal_line place.rule, section_line place.section, decimal_line place.entry)

more_line : (places : List Place) → list_all has_plain_key places ≡ true → is_one_line (more_places places) ≡ true
more_line [] plain = refl
more_line (place ∷ places) plain =
    let parts = both_parts (has_plain_key place) (list_all has_plain_key places) plain in
    join (place_text place) (more_places places) (place_line place parts.0) (more_line places parts.1)

places_line : (places : List Place) → list_all has_plain_key places ≡ true → is_one_line (places_text places) ≡ true
places_line [] plain = refl
places_line (place ∷ places) plain =
    let parts = both_parts (has_plain_key place) (list_all has_plain_key places) plain in
    join (place_text place) (more_places places) (place_line place parts.0) (more_line places parts.1)

slot_line : (full : FullSlot) → has_plain_name full ≡ true → is_one_line (full_slot_text full) ≡ true
slot_line full plain = simp (list_all-append, plain, decimal_line full.revision, decimal_line full.count)

slots_line : (full : List FullSlot) → list_all has_plain_name full ≡ true → is_one_line (flat_map full_slot_text full) ≡ true
slots_line [] plain = refl
slots_line (slot ∷ full) plain =
    let parts = both_parts (has_plain_name slot) (list_all has_plain_name full) plain in
    join (full_slot_text slot) (flat_map full_slot_text full) (slot_line slot parts.0) (slots_line full parts.1)

full_line : (full : List FullSlot) → list_all has_plain_name full ≡ true → is_one_line (full_text full) ≡ true
full_line [] plain = refl
full_line (slot ∷ full) plain = slots_line (slot ∷ full) plain

-- ---- faults

fault_line : (f : Fault) → is_one_line (fault_name f) ≡ true
fault_line fault.DuplicateEndpoint = refl
fault_line fault.UnknownEndpoint = refl
fault_line fault.EndpointsFull = refl
fault_line fault.DuplicateIdentityName = refl
fault_line fault.UnknownIdentityName = refl
fault_line fault.AddressTaken = refl
fault_line fault.UnknownPolicy = refl
fault_line fault.IdentitiesExhausted = refl
fault_line fault.LocalExhausted = refl
fault_line fault.ReservedLabel = refl

doc_line : (f : DocFault) → is_one_line (doc_fault_name f) ≡ true
doc_line doc.NotPolicy = refl
doc_line doc.NoName = refl
doc_line doc.NoSpec = refl
doc_line (doc.UnknownMember path) = refl
doc_line (doc.Unsupported name) = refl
doc_line (doc.WrongShape path) = refl

cause_line : (cause : RuleCause) → is_one_line (cause_name cause) ≡ true
cause_line rule.NoSelector = refl
cause_line rule.Combining = refl
cause_line rule.BadSelector = refl
cause_line rule.BadCidr = refl
cause_line rule.ExceptOutside = refl
cause_line rule.UnknownEntity = refl
cause_line rule.BadPort = refl
cause_line rule.BadProtocol = refl
cause_line rule.TooManyPorts = refl
cause_line rule.EmptyPorts = refl
cause_line rule.BadPolicyType = refl
cause_line rule.BadPeer = refl
cause_line rule.BadEndPort = refl

told_line : (cause : Option RuleCause) → is_one_line (option_map_or cause_name cause (codes "0 no-such-fault")) ≡ true
told_line None = refl
told_line (Some cause) = cause_line cause

name_line : (f : LineFault) → is_one_line (line_fault_name f) ≡ true
name_line line.Json = refl
name_line line.NoOp = refl
name_line (line.BadField member) = refl
name_line (line.UnknownField member) = refl
name_line (line.Doc f) = doc_line f
name_line (line.Rule f) = told_line (cause_of f.number)
name_line line.BadLabel = refl
name_line line.DuplicateLabelKey = refl
name_line line.BadAddress = refl

fault_place_line : (rule : ℕ) (place : Option (Section × ℕ)) → is_one_line (fault_place_text rule place) ≡ true
fault_place_line rule None = decimal_line rule
fault_place_line rule (Some at) = simp (list_all-append, decimal_line rule, section_line at.0, decimal_line at.1)

doc_detail_line : (f : DocFault) → is_one_line (doc_detail f) ≡ true
doc_detail_line doc.NotPolicy = refl
doc_detail_line doc.NoName = refl
doc_detail_line doc.NoSpec = refl
doc_detail_line (doc.UnknownMember path) = printable_line path
doc_detail_line (doc.Unsupported name) = printable_line name
doc_detail_line (doc.WrongShape path) = printable_line path

detail_line : (f : LineFault) → is_one_line (line_detail f) ≡ true
detail_line line.Json = refl
detail_line line.NoOp = refl
detail_line (line.BadField member) = printable_line member
detail_line (line.UnknownField member) = printable_line member
detail_line (line.Doc f) = doc_detail_line f
detail_line (line.Rule f) = fault_place_line f.rule f.«at»
detail_line line.BadLabel = refl
detail_line line.DuplicateLabelKey = refl
detail_line line.BadAddress = refl

-- ---- answers

identity_line : (identity : Option ℕ) → is_one_line (identity_text identity) ≡ true
identity_line None = refl
identity_line (Some number) = decimal_line number

trace_line : (revision : ℕ) (trace : Trace) → list_all has_plain_key trace.denies ≡ true → list_all has_plain_key trace.allows ≡ true
    → is_one_line (trace_text revision trace) ≡ true
trace_line revision trace denies allows =
    simp (list_all-append, word_line trace.word, decimal_line revision, decimal_line trace.remote, places_line trace.denies denies, places_line trace.allows allows)

pub one_line : (a : Answer) → IsTrue (has_plain_names a) → IsTrue (is_one_line (answer_words a))
one_line (answer.Committed revision identity) plain = join (decimal revision) (identity_text identity) (decimal_line revision) (identity_line identity)
one_line (answer.Synced revision full) plain = join (decimal revision) (full_text full) (decimal_line revision) (full_line full plain)
one_line (answer.Phase number) plain = decimal_line number
one_line (answer.Verdict revision word) plain = join (word_text word) (at_text revision) (word_line word) (at_line revision)
one_line (answer.NoEndpoint revision) plain = at_line revision
one_line (answer.NotYet revision) plain = at_line revision
one_line (answer.Traced revision trace) plain =
    let parts = both_parts (list_all has_plain_key trace.denies) (list_all has_plain_key trace.allows) plain in
    trace_line revision trace parts.0 parts.1
one_line (answer.BadLine f) plain = join (line_fault_name f) (line_detail f) (name_line f) (detail_line f)
one_line (answer.Refused refused) plain = join (fault_name refused.fault) (at_text refused.revision) (fault_line refused.fault) (at_line refused.revision)

words_lines : (answers : List Answer) → list_all has_plain_names answers ≡ true → list_all is_one_line (map answer_words answers) ≡ true
words_lines [] plain = refl
words_lines (a ∷ answers) plain =
    let parts = both_parts (has_plain_names a) (list_all has_plain_names answers) plain in
    both_true (one_line a parts.0) (words_lines answers parts.1)

texts_ended : (answers : List Answer) → texts_of answers ≡ flat_map ended (map answer_words answers)
texts_ended [] = refl
texts_ended (a ∷ answers) = ap (λ rest. ended (answer_words a) ++ rest) (texts_ended answers)

pub read_again : (answers : List Answer) → IsTrue (list_all has_plain_names answers) → lines_of (texts_of answers) ≡ map answer_words answers
read_again answers plain = ap lines_of (texts_ended answers) ∙ again (map answer_words answers) (words_lines answers plain)
