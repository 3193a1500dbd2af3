-- Each answer is read again from its text, but for the bytes that are printed as `?`.
use Rattle.std.proofs.Common.{◌≡◌, ◌≢◌, codes, ne_eqb, ℕ, suc, ◌≤◌, Bool, true, false, cond, ◌&&◌, ◌==◌, nat_le, List, [], ◌∷◌, ◌++◌, length, drop, Option, Some, None, is_some, IsTrue, refl, sym, ap, subst, ◌∙◌, arith, append_assoc, length-append, eqb-true}
use Rattle.std.specs.Fmt.{decimal}
use Rattle.std.specs.List.{flat_map, list_all}
use Rattle.std.proofs.lemmas.Bool.{false≢true}
use Rattle.std.proofs.lemmas.List.{append-nil, append_cancel_right}
use Rattle.std.proofs.lemmas.Option.{none-some, same_Some}
use Rattle.pol_json.specs.declared.fault.DocFault.{DocFault}
use Rattle.pol_json.specs.declared.fault.DocFault.TheVariants as doc
use Rattle.pol_json.specs.Texts.{has_name_length, is_digit, is_dns_byte, is_dns_name, is_letter, is_name, is_name_byte, printable, printable_byte}
use Rattle.pol_mapkey.specs.declared.Word.{Word}
use Rattle.pol_mapkey.specs.declared.Word.TheVariants.{Allowed, DeniedByRule, DeniedByDefault}
use Rattle.pol_model.specs.declared.answer.Fault.{Fault}
use Rattle.pol_model.specs.declared.answer.Fault.TheVariants as fault
use Rattle.pol_model.specs.declared.answer.FullSlot.{FullSlot}
use Rattle.pol_model.specs.declared.answer.Trace.{Trace}
use Rattle.pol_rule.specs.Causes.{cause_of, number_of}
use Rattle.pol_rule.specs.declared.cause.RuleCause.{RuleCause}
use Rattle.pol_rule.specs.declared.cause.RuleCause.TheVariants as rule
use Rattle.pol_rule.specs.declared.policy.Place.{Place}
use Rattle.pol_rule.specs.declared.policy.Section.{Section}
use Rattle.pol_rule.specs.declared.policy.Section.TheVariants as section
use Rattle.pol_script.proofs.KeyNames.{name_bytes}
use Rattle.pol_script.proofs.ScriptLaws.{both_parts}
use Rattle.pol_script.specs.declared.line_fault.LineFault.{LineFault}
use Rattle.pol_script.specs.declared.line_fault.LineFault.TheVariants as line
use Rattle.pol_script.specs.Lines.{newline}
use Rattle.pol_script.specs.Names.{is_applied_name}
use Rattle.pol_answer.specs.Faults.{fault_name, rule_fault_name}
use Rattle.pol_answer.specs.Shown.{shown, shown_fault, shown_document, is_u64, is_applied_key, is_read_place, is_read_slot, is_read_entry, is_read_fault, is_read_identity, has_read_parts}
use Rattle.pol_answer.specs.Text.{line_fault_text, trace_text, word_text, section_text, entry_text, at_text, place_text, more_places, places_text, full_slot_text, full_text, identity_text, fault_place_text, answer_words, text_of}
use Rattle.pol_answer.specs.declared.answer.Answer.{Answer}
use Rattle.pol_answer.specs.declared.answer.Answer.TheVariants as answer
use Rattle.pol_answer.proofs.Cutting.{head, stops, after, before_is, after_is, number, number_is, past_number_is, last_number_is, read_list, joined, Reads, list_is, long_enough}
use Rattle.pol_answer.proofs.Rebuild.{is_over, read_word, past_word, read_section, read_slot, read_place, read_places, read_identity, read_full, read_rule, read_refused, rebuild}

-- ---- words and sections

word_is : (w : Word) (s : List ℕ) → (read_word (word_text w ++ s) ≡ w) × (past_word (word_text w ++ s) ≡ s)
word_is Allowed s = (refl, refl)
word_is DeniedByRule s = (refl, refl)
word_is DeniedByDefault s = (refl, refl)

section_is : (w : Section) (s : List ℕ) → stops is_letter s ≡ true → (read_section (section_text w ++ s) ≡ w) × (after is_letter (section_text w ++ s) ≡ s)
section_is section.Ingress s stop = (rw (before_is is_letter (section_text section.Ingress) s refl stop) refl, after_is is_letter (section_text section.Ingress) s refl stop)
section_is section.IngressDeny s stop = (rw (before_is is_letter (section_text section.IngressDeny) s refl stop) refl, after_is is_letter (section_text section.IngressDeny) s refl stop)
section_is section.Egress s stop = (rw (before_is is_letter (section_text section.Egress) s refl stop) refl, after_is is_letter (section_text section.Egress) s refl stop)
section_is section.EgressDeny s stop = (rw (before_is is_letter (section_text section.EgressDeny) s refl stop) refl, after_is is_letter (section_text section.EgressDeny) s refl stop)

-- ---- bytes

other_byte : (b k m : ℕ) → (b == k) ≡ true → k ≢ m → (b == m) ≡ false
other_byte b k m is other = rw (eqb-true b k is) (ne_eqb k m other)

-- no byte of a name is a space
dns_no_space : (c : ℕ) → is_dns_byte c ≡ true → (c == 32) ≡ false
dns_no_space c dns = no_space (c == 32) refl
  where
    no_space : (b : Bool) → (c == 32) ≡ b → b ≡ false
    no_space false e = refl
    no_space true e = absurd (false≢true (subst (λ n. is_dns_byte n ≡ true) (eqb-true c 32 e) dns))

and_false : (a b : Bool) → b ≡ false → (a && b) ≡ false
and_false true b e = e
and_false false b e = refl

-- ---- maps that are too large

abbrev slot_text : FullSlot → List ℕ
slot_text full = full.name ++ 64 ∷ (decimal full.revision ++ 61 ∷ decimal full.count)

abbrev IsNumberOver : List ℕ → Type 0
IsNumberOver s = stops is_digit s ≡ true

slot_shape : (full : FullSlot) (s : List ℕ) → slot_text full ++ s ≡ full.name ++ 64 ∷ (decimal full.revision ++ 61 ∷ (decimal full.count ++ s))
slot_shape full s = simp append_assoc

slot_is : (full : FullSlot) (s : List ℕ) → is_read_slot full ≡ true → IsNumberOver s → read_slot (slot_text full ++ s) ≡ (full, s)
slot_is full s ok stop =
    let both = both_parts (is_name full.name && is_u64 full.revision) (is_u64 full.count) ok in
    let front = both_parts (is_name full.name) (is_u64 full.revision) both.0 in
    let name = (both_parts (has_name_length full.name) (list_all is_name_byte full.name) front.0).1 in
    let at_count = decimal full.count ++ s in
    let at_revision = decimal full.revision ++ 61 ∷ at_count in
    rw (
      slot_shape full s,
      before_is is_name_byte full.name (64 ∷ at_revision) name refl,
      after_is is_name_byte full.name (64 ∷ at_revision) name refl,
      number_is full.revision (61 ∷ at_count) front.1 refl,
      past_number_is full.revision (61 ∷ at_count) front.1 refl,
      number_is full.count s both.1 stop,
      past_number_is full.count s both.1 stop,
    ) refl

slot_reads : Reads 32 slot_text read_slot is_read_slot IsNumberOver
slot_reads = record { again = slot_is; next = λ s. refl }

slots_joined : (full : List FullSlot) → flat_map full_slot_text full ≡ joined 32 slot_text full
slots_joined [] = refl
slots_joined (slot ∷ full) =
    let one : full_slot_text slot ≡ 32 ∷ slot_text slot = simp append_assoc in
    ap (λ front. front ++ flat_map full_slot_text full) one ∙ ap (λ rest. (32 ∷ slot_text slot) ++ rest) (slots_joined full)

slots_read : (full : List FullSlot) (k : ℕ) → length full ≤ k → list_all is_read_slot full ≡ true
    → (read_list 32 read_slot k (flat_map full_slot_text full)).0 ≡ full
slots_read full k room ok =
    let text : flat_map full_slot_text full ≡ joined 32 slot_text full ++ [] = slots_joined full ∙ sym (append-nil (joined 32 slot_text full)) in
    rw (text, list_is 32 slot_text read_slot is_read_slot IsNumberOver slot_reads full [] k room ok refl refl) refl

full_is : (full : List FullSlot) → list_all is_read_slot full ≡ true → (read_full (full_text full) ≡ full) × IsNumberOver (full_text full)
full_is [] ok = (slots_read [] 0 (omega arith) refl, refl)
full_is (slot ∷ full) ok =
    let text : flat_map full_slot_text (slot ∷ full) ≡ joined 32 slot_text (slot ∷ full) = slots_joined (slot ∷ full) in
    let room = long_enough 32 slot_text (slot ∷ full) in
    let k : length (slot ∷ full) ≤ length (full_text (slot ∷ full)) = omega (arith, room, ap length text, length-append (codes " full") (flat_map full_slot_text (slot ∷ full))) in
    (slots_read (slot ∷ full) (length (full_text (slot ∷ full))) k ok, refl)

-- ---- places

key_parts : (cluster_wide : Bool) (ns : List ℕ) → cond cluster_wide (length ns == 0) (is_dns_name ns) ≡ true
    → ((length ns == 0) ≡ cluster_wide) × (list_all is_dns_byte ns ≡ true)
key_parts true [] e = (refl, refl)
key_parts true (b ∷ ns) e = absurd (omega (arith, eqb-true (length (b ∷ ns)) 0 e))
key_parts false [] e = absurd cc
key_parts false (b ∷ ns) e =
    (ne_eqb (length (b ∷ ns)) 0 (λ none. omega (arith, none)), (both_parts (has_name_length (b ∷ ns)) (list_all is_dns_byte (b ∷ ns)) e).1)

place_shape : (p : Place) (s : List ℕ)
    → place_text p ++ s ≡ p.key.namespace ++ 47 ∷ (p.key.name ++ 35 ∷ (decimal p.rule ++ 46 ∷ (section_text p.section ++ 91 ∷ (decimal p.entry ++ 93 ∷ s))))
place_shape p s = simp append_assoc

record PlaceParts (p : Place) : Type 0 where
  cluster : (length p.key.namespace == 0) ≡ p.key.cluster_wide
  namespace : list_all is_dns_byte p.key.namespace ≡ true
  name : list_all is_name_byte p.key.name ≡ true
  rule : is_u64 p.rule ≡ true
  entry : is_u64 p.entry ≡ true

place_parts : (p : Place) → is_read_place p ≡ true → PlaceParts p
place_parts p ok =
    let both = both_parts (is_applied_key p.key && is_u64 p.rule) (is_u64 p.entry) ok in
    let front = both_parts (is_applied_key p.key) (is_u64 p.rule) both.0 in
    let key = both_parts (is_applied_name p.key.name) (cond p.key.cluster_wide (length p.key.namespace == 0) (is_dns_name p.key.namespace)) front.0 in
    let space = key_parts p.key.cluster_wide p.key.namespace key.1 in
    record {
      cluster = space.0;
      namespace = space.1;
      name = name_bytes p.key.name key.0;
      rule = front.1;
      entry = both.1;
    }

place_is : (p : Place) (s : List ℕ) → is_read_place p ≡ true → Unit {0} → read_place (place_text p ++ s) ≡ (p, s)
place_is p s ok _ =
    let parts = place_parts p ok in
    let at_entry = decimal p.entry ++ 93 ∷ s in
    let at_section = section_text p.section ++ 91 ∷ at_entry in
    let at_rule = decimal p.rule ++ 46 ∷ at_section in
    let at_name = p.key.name ++ 35 ∷ at_rule in
    let which = section_is p.section (91 ∷ at_entry) refl in
    rw (
      place_shape p s,
      before_is is_dns_byte p.key.namespace (47 ∷ at_name) parts.namespace refl,
      after_is is_dns_byte p.key.namespace (47 ∷ at_name) parts.namespace refl,
      before_is is_name_byte p.key.name (35 ∷ at_rule) parts.name refl,
      after_is is_name_byte p.key.name (35 ∷ at_rule) parts.name refl,
      number_is p.rule (46 ∷ at_section) parts.rule refl,
      past_number_is p.rule (46 ∷ at_section) parts.rule refl,
      which.0,
      which.1,
      number_is p.entry (93 ∷ s) parts.entry refl,
      past_number_is p.entry (93 ∷ s) parts.entry refl,
      parts.cluster,
    ) refl

place_reads : Reads 44 place_text read_place is_read_place (λ _. Unit {0})
place_reads = record { again = place_is; next = λ s. tt }

places_joined : (places : List Place) → more_places places ≡ joined 44 place_text places
places_joined [] = refl
places_joined (p ∷ places) = ap (λ rest. 44 ∷ (place_text p ++ rest)) (places_joined places)

not_dash : (ns rest : List ℕ) → list_all is_dns_byte ns ≡ true → (head (ns ++ 47 ∷ rest) == 45 && is_over (drop 1 (ns ++ 47 ∷ rest))) ≡ false
not_dash [] rest all = refl
not_dash (b ∷ []) rest all = and_false (b == 45) false refl
not_dash (b ∷ c ∷ ns) rest all =
    let later = (both_parts (is_dns_byte b) (is_dns_byte c && list_all is_dns_byte ns) all).1 in
    and_false (b == 45) (c == 32) (dns_no_space c (both_parts (is_dns_byte c) (list_all is_dns_byte ns) later).0)

over_no_comma : (s : List ℕ) → is_over s ≡ true → (head s == 44) ≡ false
over_no_comma [] over = refl
over_no_comma (b ∷ s) over = other_byte b 32 44 over (λ e. omega (arith, e))

places_is : (places : List Place) (s : List ℕ) → list_all is_read_place places ≡ true → is_over s ≡ true → read_places (places_text places ++ s) ≡ (places, s)
places_is [] s ok over = rw over refl
places_is (p ∷ places) s ok over =
    let text = (place_text p ++ joined 44 place_text places) ++ s in
    let first = place_parts p (both_parts (is_read_place p) (list_all is_read_place places) ok).0 in
    let listed : (place_text p ++ more_places places) ++ s ≡ text = ap (λ rest. (place_text p ++ rest) ++ s) (places_joined places) in
    let shape : text ≡ place_text p ++ (joined 44 place_text places ++ s) = append_assoc (place_text p) (joined 44 place_text places) s in
    let no_dash : (head text == 45 && is_over (drop 1 text)) ≡ false = rw (shape, place_shape p (joined 44 place_text places ++ s)) (not_dash p.key.namespace _ first.namespace) in
    let room : length (p ∷ places) ≤ suc (length text) =
    omega (arith, long_enough 44 place_text (p ∷ places), length-append (place_text p ++ joined 44 place_text places) s) in
    rw (listed, no_dash) (list_is 44 place_text read_place is_read_place (λ _. Unit {0}) place_reads (p ∷ places) s (suc (length text)) room ok tt (over_no_comma s over))

-- ---- faults of rules

abbrev rule_place : ℕ → Option (Section × ℕ) → List ℕ
rule_place rule None = decimal rule
rule_place rule (Some at) = decimal rule ++ 46 ∷ (section_text at.0 ++ 91 ∷ (decimal at.1 ++ 93 ∷ []))

rule_shape : (rule : ℕ) (at : Option (Section × ℕ)) → fault_place_text rule at ≡ 35 ∷ rule_place rule at
rule_shape rule None = refl
rule_shape rule (Some at) =
    let entry : entry_text at.0 at.1 ≡ section_text at.0 ++ 91 ∷ (decimal at.1 ++ 93 ∷ []) = simp append_assoc in
    ap (λ rest. 35 ∷ rest) (append_assoc (decimal rule) (codes ".") (entry_text at.0 at.1) ∙ ap (λ rest. decimal rule ++ 46 ∷ rest) entry)

rule_at : (n rule : ℕ) (at : Option (Section × ℕ)) → is_u64 rule ≡ true → is_read_entry at ≡ true
    → read_rule n (rule_place rule at) ≡ record { number = n; rule = rule; at = at }
rule_at n rule None small ok = let over : decimal rule ≡ decimal rule ++ [] = sym (append-nil (decimal rule)) in rw (over, number_is rule [] small refl, past_number_is rule [] small refl) refl
rule_at n rule (Some at) small ok =
    let at_entry = decimal at.1 ++ 93 ∷ [] in
    let at_section = section_text at.0 ++ 91 ∷ at_entry in
    let which = section_is at.0 (91 ∷ at_entry) refl in
    rw (number_is rule (46 ∷ at_section) small refl, past_number_is rule (46 ∷ at_section) small refl, which.0, which.1, number_is at.1 (93 ∷ []) ok refl) refl

-- the cause of a number has that number
abbrev IsCauseOf : ℕ → Option RuleCause → Type 0
IsCauseOf n found = (cause : RuleCause) → found ≡ Some cause → n ≡ number_of cause

cause_or : (n : ℕ) (cause : RuleCause) (rest : Option RuleCause) → IsCauseOf n rest → IsCauseOf n (cond (n == number_of cause) (Some cause) rest)
cause_or n cause rest later = by (n == number_of cause) refl
  where
    by : (b : Bool) → (n == number_of cause) ≡ b → IsCauseOf n (cond b (Some cause) rest)
    by true e = λ one is. eqb-true n (number_of cause) e ∙ ap number_of (same_Some cause one is)
    by false e = later

no_cause : (n : ℕ) → IsCauseOf n None
no_cause n = λ cause is. absurd (none-some cause is)

cause_is : (n : ℕ) → IsCauseOf n (cause_of n)
cause_is n =
    cause_or n rule.NoSelector _
    (cause_or n rule.Combining _
    (cause_or n rule.BadSelector _
    (cause_or n rule.BadCidr _
    (cause_or n rule.ExceptOutside _
    (cause_or n rule.UnknownEntity _
    (cause_or n rule.BadPort _
    (cause_or n rule.BadProtocol _
    (cause_or n rule.TooManyPorts _
    (cause_or n rule.EmptyPorts _
    (cause_or n rule.BadPolicyType _
    (cause_or n rule.BadPeer _
    (cause_or n rule.BadEndPort _
    (no_cause n)))))))))))))

abbrev OfRule : List ℕ → ℕ → Type 0
OfRule place n = read_refused (rule_fault_name n ++ 32 ∷ 35 ∷ place) ≡ answer.BadLine (line.Rule (read_rule n place))

of_cause : (place : List ℕ) (cause : RuleCause) → OfRule place (number_of cause)
of_cause place rule.NoSelector = refl
of_cause place rule.Combining = refl
of_cause place rule.BadSelector = refl
of_cause place rule.BadCidr = refl
of_cause place rule.ExceptOutside = refl
of_cause place rule.UnknownEntity = refl
of_cause place rule.BadPort = refl
of_cause place rule.BadProtocol = refl
of_cause place rule.TooManyPorts = refl
of_cause place rule.EmptyPorts = refl
of_cause place rule.BadPolicyType = refl
of_cause place rule.BadPeer = refl
of_cause place rule.BadEndPort = refl

of_rule : (place : List ℕ) (n : ℕ) → is_some (cause_of n) ≡ true → OfRule place n
of_rule place n is = by (cause_of n) (cause_is n) is
  where
    by : (found : Option RuleCause) → IsCauseOf n found → is_some found ≡ true → OfRule place n
    by None known is = absurd (false≢true is)
    by (Some cause) known is = subst (OfRule place) (sym (known cause refl)) (of_cause place cause)

-- ---- answers

identity_is : (identity : Option ℕ) → is_read_identity identity ≡ true → (read_identity (identity_text identity) ≡ identity) × IsNumberOver (identity_text identity)
identity_is None ok = (refl, refl)
identity_is (Some number) ok = (rw (last_number_is number ok) refl, refl)

trace_shape : (r : ℕ) (t : Trace)
    → trace_text r t ≡ codes "trace " ++ (word_text t.word ++ (codes " at " ++ (decimal r ++ (codes " remote " ++ (decimal t.remote ++ (codes " denies " ++ (places_text t.denies ++ (codes " allows " ++ places_text t.allows))))))))
trace_shape r t = simp append_assoc

places_last : (places : List Place) → list_all is_read_place places ≡ true → (read_places (places_text places)).0 ≡ places
places_last places ok = let over : places_text places ≡ places_text places ++ [] = sym (append-nil (places_text places)) in rw (over, places_is places [] ok refl) refl

trace_is : (r : ℕ) (t : Trace) → is_u64 r ≡ true → is_u64 t.remote ≡ true → list_all is_read_place t.denies ≡ true → list_all is_read_place t.allows ≡ true
    → rebuild (trace_text r t) ≡ answer.Traced r t
trace_is r t small remote denies allows =
    let at_allows = codes " allows " ++ places_text t.allows in
    let at_denies = codes " denies " ++ (places_text t.denies ++ at_allows) in
    let at_remote = codes " remote " ++ (decimal t.remote ++ at_denies) in
    let word = word_is t.word (codes " at " ++ (decimal r ++ at_remote)) in
    rw (
      trace_shape r t,
      word.0,
      word.1,
      number_is r at_remote small refl,
      past_number_is r at_remote small refl,
      number_is t.remote at_denies remote refl,
      past_number_is t.remote at_denies remote refl,
      places_is t.denies at_allows denies refl,
      places_last t.allows allows,
    ) refl

abbrev RefusedText : ℕ → Fault → List ℕ
RefusedText revision f = codes "refused " ++ fault_name f ++ at_text revision

refused_is : (revision : ℕ) (f : Fault) → is_u64 revision ≡ true → rebuild (RefusedText revision f) ≡ answer.Refused (record { revision = revision; fault = f })
refused_is revision fault.DuplicateEndpoint small = rw (last_number_is revision small) refl
refused_is revision fault.UnknownEndpoint small = rw (last_number_is revision small) refl
refused_is revision fault.EndpointsFull small = rw (last_number_is revision small) refl
refused_is revision fault.DuplicateIdentityName small = rw (last_number_is revision small) refl
refused_is revision fault.UnknownIdentityName small = rw (last_number_is revision small) refl
refused_is revision fault.AddressTaken small = rw (last_number_is revision small) refl
refused_is revision fault.UnknownPolicy small = rw (last_number_is revision small) refl
refused_is revision fault.IdentitiesExhausted small = rw (last_number_is revision small) refl
refused_is revision fault.LocalExhausted small = rw (last_number_is revision small) refl
refused_is revision fault.ReservedLabel small = rw (last_number_is revision small) refl

fault_is : (f : LineFault) → is_read_fault f ≡ true → rebuild (codes "refused " ++ line_fault_text f) ≡ answer.BadLine (shown_fault f)
fault_is line.Json ok = refl
fault_is line.NoOp ok = refl
fault_is (line.BadField member) ok = refl
fault_is (line.UnknownField member) ok = refl
fault_is (line.Doc doc.NotPolicy) ok = refl
fault_is (line.Doc doc.NoName) ok = refl
fault_is (line.Doc doc.NoSpec) ok = refl
fault_is (line.Doc (doc.UnknownMember path)) ok = refl
fault_is (line.Doc (doc.Unsupported name)) ok = refl
fault_is (line.Doc (doc.WrongShape path)) ok = refl
fault_is (line.Rule g) ok =
    let last = both_parts (is_some (cause_of g.number) && is_u64 g.rule) (is_read_entry g.«at») ok in
    let numbers = both_parts (is_some (cause_of g.number)) (is_u64 g.rule) last.0 in
    rw (rule_shape g.rule g.«at»)
    (of_rule (rule_place g.rule g.«at») g.number numbers.0
    ∙ ap (λ fault. answer.BadLine (line.Rule fault)) (rule_at g.number g.rule g.«at» numbers.1 last.1))
fault_is line.BadLabel ok = refl
fault_is line.DuplicateLabelKey ok = refl
fault_is line.BadAddress ok = refl

rebuilt : (a : Answer) → has_read_parts a ≡ true → rebuild (answer_words a) ≡ shown a
rebuilt (answer.Committed r identity) ok =
    let parts = both_parts (is_u64 r) (is_read_identity identity) ok in
    let of = identity_is identity parts.1 in
    rw (number_is r (identity_text identity) parts.0 of.1, past_number_is r (identity_text identity) parts.0 of.1, of.0) refl
rebuilt (answer.Synced r full) ok =
    let parts = both_parts (is_u64 r) (list_all is_read_slot full) ok in
    let of = full_is full parts.1 in
    rw (number_is r (full_text full) parts.0 of.1, past_number_is r (full_text full) parts.0 of.1, of.0) refl
rebuilt (answer.Phase n) ok = rw (last_number_is n ok) refl
rebuilt (answer.Verdict r Allowed) ok = rw (last_number_is r ok) refl
rebuilt (answer.Verdict r DeniedByRule) ok = rw (last_number_is r ok) refl
rebuilt (answer.Verdict r DeniedByDefault) ok = rw (last_number_is r ok) refl
rebuilt (answer.NoEndpoint r) ok = rw (last_number_is r ok) refl
rebuilt (answer.NotYet r) ok = rw (last_number_is r ok) refl
rebuilt (answer.Traced r t) ok =
    let last = both_parts (is_u64 r && is_u64 t.remote && list_all is_read_place t.denies) (list_all is_read_place t.allows) ok in
    let middle = both_parts (is_u64 r && is_u64 t.remote) (list_all is_read_place t.denies) last.0 in
    let first = both_parts (is_u64 r) (is_u64 t.remote) middle.0 in
    trace_is r t first.0 first.1 middle.1 last.1
rebuilt (answer.BadLine fault) ok = fault_is fault ok
rebuilt (answer.Refused refused) ok = refused_is refused.revision refused.fault ok

-- ---- the laws

pub tells : (a b : Answer) → IsTrue (has_read_parts a) → IsTrue (has_read_parts b) → text_of a ≡ text_of b → shown a ≡ shown b
tells a b one two same =
    let words : answer_words a ≡ answer_words b = append_cancel_right (answer_words a) (answer_words b) (newline ∷ []) same in
    sym (rebuilt a one) ∙ ap rebuild words ∙ rebuilt b two

byte_again : (b : ℕ) (t : Bool) → (nat_le 33 b && nat_le b 126) ≡ t → printable_byte (cond t b 63) ≡ cond t b 63
byte_again b true e = rw e refl
byte_again b false e = refl

printable_again : (bytes : List ℕ) → printable (printable bytes) ≡ printable bytes
printable_again [] = refl
printable_again (b ∷ bytes) = rw (byte_again b (nat_le 33 b && nat_le b 126) refl, printable_again bytes) refl

document_alike : (f : DocFault) → line_fault_text (line.Doc (shown_document f)) ≡ line_fault_text (line.Doc f)
document_alike doc.NotPolicy = refl
document_alike doc.NoName = refl
document_alike doc.NoSpec = refl
document_alike (doc.UnknownMember path) = rw (printable_again path) refl
document_alike (doc.Unsupported name) = rw (printable_again name) refl
document_alike (doc.WrongShape path) = rw (printable_again path) refl

fault_alike : (f : LineFault) → line_fault_text (shown_fault f) ≡ line_fault_text f
fault_alike line.Json = refl
fault_alike line.NoOp = refl
fault_alike (line.BadField member) = rw (printable_again member) refl
fault_alike (line.UnknownField member) = rw (printable_again member) refl
fault_alike (line.Doc fault) = document_alike fault
fault_alike (line.Rule fault) = refl
fault_alike line.BadLabel = refl
fault_alike line.DuplicateLabelKey = refl
fault_alike line.BadAddress = refl

pub no_more : (a : Answer) → text_of (shown a) ≡ text_of a
no_more (answer.BadLine fault) = rw (fault_alike fault) refl
no_more other = refl
