-- The answer that a text tells, read from its bytes.
use Rattle.std.proofs.Common.{ℕ, suc, ◌+◌, ◌*◌, Bool, true, cond, ◌&&◌, ◌==◌, List, [], ◌∷◌, length, drop, Option, Some, None}
use Rattle.pol_json.specs.declared.fault.DocFault.TheVariants as doc
use Rattle.pol_json.specs.Texts.{is_dns_byte, is_letter, is_name_byte}
use Rattle.pol_mapkey.specs.declared.Word.{Word}
use Rattle.pol_mapkey.specs.declared.Word.TheVariants.{Allowed, DeniedByRule, DeniedByDefault}
use Rattle.pol_model.specs.declared.answer.Fault.{Fault}
use Rattle.pol_model.specs.declared.answer.Fault.TheVariants as fault
use Rattle.pol_model.specs.declared.answer.FullSlot.{FullSlot}
use Rattle.pol_rule.specs.declared.fault.RuleFault.{RuleFault}
use Rattle.pol_rule.specs.declared.policy.Place.{Place}
use Rattle.pol_rule.specs.declared.policy.PolicyKey.{PolicyKey}
use Rattle.pol_rule.specs.declared.policy.Section.{Section}
use Rattle.pol_rule.specs.declared.policy.Section.TheVariants as section
use Rattle.pol_script.specs.declared.line_fault.LineFault.TheVariants as line
use Rattle.pol_answer.specs.declared.answer.Answer.{Answer}
use Rattle.pol_answer.specs.declared.answer.Answer.TheVariants as answer
use Rattle.pol_answer.proofs.Cutting.{head, before, after, number, past_number, Reader, read_list}

-- ---- parts

abbrev pub read_word : List ℕ → Word
read_word text = cond (head text == 97) Allowed (cond (head (drop 10 text) == 114) DeniedByRule DeniedByDefault)

abbrev pub past_word : List ℕ → List ℕ
past_word text = cond (head text == 97) (drop 7 text) (cond (head (drop 10 text) == 114) (drop 14 text) (drop 17 text))

-- a section, by the length of its name
abbrev pub section_by : ℕ → Section
section_by size =
    cond (size == 7) section.Ingress (cond (size == 11) section.IngressDeny (cond (size == 6) section.Egress section.EgressDeny))

abbrev pub read_section : List ℕ → Section
read_section text = section_by (length (before is_letter text))

-- what stands behind a part that passes the test, without the byte that ends it
abbrev pub behind : (ℕ → Bool) → List ℕ → List ℕ
behind test text = drop 1 (after test text)

abbrev pub behind_number : List ℕ → List ℕ
behind_number text = drop 1 (past_number text)

abbrev pub read_slot : Reader FullSlot
read_slot text = (
  record { name = before is_name_byte text; revision = number (behind is_name_byte text); count = number (behind_number (behind is_name_byte text)) },
  past_number (behind_number (behind is_name_byte text)),
)

abbrev key_by : List ℕ → List ℕ → PolicyKey
key_by namespace name = record { cluster_wide = length namespace == 0; namespace = namespace; name = name }

-- from the number of the rule on
abbrev place_by : PolicyKey → List ℕ → Place × List ℕ
place_by key text =
    let at = behind_number text in
    (record { key = key; rule = number text; section = read_section at; entry = number (behind is_letter at) }, behind_number (behind is_letter at))

abbrev pub read_place : Reader Place
read_place text =
    let from_name = behind is_dns_byte text in
    place_by (key_by (before is_dns_byte text) (before is_name_byte from_name)) (behind is_name_byte from_name)

-- the text is over, or a space follows
abbrev pub is_over : List ℕ → Bool
is_over [] = true
is_over (b ∷ bs) = b == 32

abbrev pub read_places : Reader (List Place)
read_places text =
    cond (head text == 45 && is_over (drop 1 text)) ([], drop 1 text) (read_list 44 read_place (suc (length text)) (44 ∷ text))

-- ---- forms

abbrev pub read_identity : List ℕ → Option ℕ
read_identity [] = None
read_identity (b ∷ bs) = Some (number (drop 9 bs))

abbrev pub read_full : List ℕ → List FullSlot
read_full text = (read_list 32 read_slot (length text) (drop 5 text)).0

abbrev pub trace_by : Word → ℕ → ℕ → List Place × List ℕ → Answer
trace_by word revision remote denies =
    answer.Traced revision (record { word = word; remote = remote; denies = denies.0; allows = (read_places (drop 8 denies.1)).0 })

abbrev pub read_trace : List ℕ → Answer
read_trace text =
    let at = drop 4 (past_word text) in
    let remote = drop 8 (past_number at) in
    trace_by (read_word text) (number at) (number remote) (read_places (drop 8 (past_number remote)))

abbrev pub read_at : List ℕ → Option (Section × ℕ)
read_at [] = None
read_at (b ∷ bs) = Some (read_section bs, number (behind is_letter bs))

abbrev pub read_rule : ℕ → List ℕ → RuleFault
read_rule number_of text = record { number = number_of; rule = number text; at = read_at (past_number text) }

abbrev refused : List ℕ → Fault → Answer
refused text f = answer.Refused (record { revision = number text; fault = f })

-- the first two bytes, as one number
abbrev pub two_bytes : List ℕ → ℕ
two_bytes text = head text * 256 + head (drop 1 text)

abbrev pub refused_by : ℕ → List ℕ → Answer
refused_by two text =
    cond (two == 12576) (answer.BadLine line.Json) (
    cond (two == 12832) (answer.BadLine line.NoOp) (
    cond (two == 13088) (answer.BadLine (line.BadField (drop 12 text))) (
    cond (two == 13344) (answer.BadLine (line.UnknownField (drop 16 text))) (
    cond (two == 12592) (answer.BadLine (line.Doc doc.NotPolicy)) (
    cond (two == 12593) (answer.BadLine (line.Doc doc.NoName)) (
    cond (two == 12594) (answer.BadLine (line.Doc doc.NoSpec)) (
    cond (two == 12595) (answer.BadLine (line.Doc (doc.UnknownMember (drop 18 text)))) (
    cond (two == 12596) (answer.BadLine (line.Doc (doc.Unsupported (drop 15 text)))) (
    cond (two == 12853) (answer.BadLine (line.Doc (doc.WrongShape (drop 15 text)))) (
    cond (two == 13113) (answer.BadLine line.BadLabel) (
    cond (two == 13360) (answer.BadLine line.DuplicateLabelKey) (
    cond (two == 13362) (answer.BadLine line.BadAddress) (
    cond (two == 12597) (answer.BadLine (line.Rule (read_rule 15 (drop 16 text)))) (
    cond (two == 12598) (answer.BadLine (line.Rule (read_rule 16 (drop 14 text)))) (
    cond (two == 12599) (answer.BadLine (line.Rule (read_rule 17 (drop 17 text)))) (
    cond (two == 12600) (answer.BadLine (line.Rule (read_rule 18 (drop 13 text)))) (
    cond (two == 12601) (answer.BadLine (line.Rule (read_rule 19 (drop 19 text)))) (
    cond (two == 12848) (answer.BadLine (line.Rule (read_rule 20 (drop 19 text)))) (
    cond (two == 12849) (answer.BadLine (line.Rule (read_rule 21 (drop 13 text)))) (
    cond (two == 12850) (answer.BadLine (line.Rule (read_rule 22 (drop 17 text)))) (
    cond (two == 12851) (answer.BadLine (line.Rule (read_rule 23 (drop 19 text)))) (
    cond (two == 12852) (answer.BadLine (line.Rule (read_rule 24 (drop 16 text)))) (
    cond (two == 12854) (answer.BadLine (line.Rule (read_rule 26 (drop 20 text)))) (
    cond (two == 12855) (answer.BadLine (line.Rule (read_rule 27 (drop 13 text)))) (
    cond (two == 12856) (answer.BadLine (line.Rule (read_rule 28 (drop 17 text)))) (
    cond (two == 13104) (refused (drop 25 text) fault.DuplicateEndpoint) (
    cond (two == 13105) (refused (drop 23 text) fault.UnknownEndpoint) (
    cond (two == 13106) (refused (drop 21 text) fault.EndpointsFull) (
    cond (two == 13107) (refused (drop 30 text) fault.DuplicateIdentityName) (
    cond (two == 13108) (refused (drop 28 text) fault.UnknownIdentityName) (
    cond (two == 13109) (refused (drop 20 text) fault.AddressTaken) (
    cond (two == 13110) (refused (drop 21 text) fault.UnknownPolicy) (
    cond (two == 13111) (refused (drop 27 text) fault.IdentitiesExhausted) (
    cond (two == 13112) (refused (drop 22 text) fault.LocalExhausted) (
    refused (drop 21 text) fault.ReservedLabel)))))))))))))))))))))))))))))))))))

abbrev pub read_refused : List ℕ → Answer
read_refused text = refused_by (two_bytes text) text

abbrev pub answer_by : ℕ → List ℕ → Answer
answer_by first text =
    cond (first == 111) (answer.Committed (number (drop 3 text)) (read_identity (past_number (drop 3 text))))
    (cond (first == 115) (answer.Synced (number (drop 7 text)) (read_full (past_number (drop 7 text))))
    (cond (first == 112) (answer.Phase (number (drop 6 text)))
    (cond (first == 110) (cond (head (drop 2 text) == 101) (answer.NoEndpoint (number (drop 14 text))) (answer.NotYet (number (drop 10 text))))
    (cond (first == 116) (read_trace (drop 6 text))
    (cond (first == 114) (read_refused (drop 8 text))
    (answer.Verdict (number (drop 4 (past_word text))) (read_word text)))))))

-- the answer of a text without its newline
abbrev pub rebuild : List ℕ → Answer
rebuild text = answer_by (head text) text
