-- The text of an answer: one line, ended by a newline byte; numbers are plain decimal ('profile').
use Rattle.std.specs.Prelude.{ℕ, Bool, true, ◌&&◌, List, [], ◌∷◌, ◌++◌, codes, Option, None, Some}
use Rattle.std.specs.List.{flat_map, list_all}
use Rattle.std.specs.Fmt.{decimal}
use Rattle.pol_json.specs.Texts.{printable}
use Rattle.pol_json.specs.declared.fault.DocFault.{DocFault}
use Rattle.pol_json.specs.declared.fault.DocFault.TheVariants as doc
use Rattle.pol_mapkey.specs.declared.Word.{Word}
use Rattle.pol_mapkey.specs.declared.Word.TheVariants.{Allowed, DeniedByRule, DeniedByDefault}
use Rattle.pol_model.specs.declared.answer.FullSlot.{FullSlot}
use Rattle.pol_model.specs.declared.answer.Trace.{Trace}
use Rattle.pol_rule.specs.declared.fault.RuleFault.{RuleFault}
use Rattle.pol_rule.specs.declared.policy.Place.{Place}
use Rattle.pol_rule.specs.declared.policy.Section.{Section}
use Rattle.pol_rule.specs.declared.policy.Section.TheVariants as section
use Rattle.pol_answer.specs.declared.answer.Answer.{Answer}
use Rattle.pol_answer.specs.declared.answer.Answer.TheVariants as answer
use Rattle.pol_script.specs.declared.line_fault.LineFault.{LineFault}
use Rattle.pol_script.specs.declared.line_fault.LineFault.TheVariants as line
use Rattle.pol_answer.specs.Faults.{fault_name, line_fault_name}
use Rattle.pol_script.specs.Lines.{newline, is_one_line}

-- ---- parts

abbrev pub word_text : Word → List ℕ
word_text Allowed = codes "allowed"
word_text DeniedByRule = codes "denied-by-rule"
word_text DeniedByDefault = codes "denied-by-default"

abbrev pub section_text : Section → List ℕ
section_text section.Ingress = codes "ingress"
section_text section.IngressDeny = codes "ingressDeny"
section_text section.Egress = codes "egress"
section_text section.EgressDeny = codes "egressDeny"

-- ` at N`
abbrev pub at_text : ℕ → List ℕ
at_text revision = codes " at " ++ decimal revision

-- `SECTION[ENTRY]`
abbrev pub entry_text : Section → ℕ → List ℕ
entry_text section entry = section_text section ++ codes "[" ++ decimal entry ++ codes "]"

-- `NAMESPACE/NAME#RULE.SECTION[ENTRY]`
abbrev pub place_text : Place → List ℕ
place_text place =
    place.key.namespace ++ codes "/" ++ place.key.name ++ codes "#" ++ decimal place.rule ++ codes "." ++ entry_text place.section place.entry

-- the places joined by commas, `-` where there are none
abbrev pub more_places : List Place → List ℕ
more_places [] = []
more_places (place ∷ places) = codes "," ++ place_text place ++ more_places places

abbrev pub places_text : List Place → List ℕ
places_text [] = codes "-"
places_text (place ∷ places) = place_text place ++ more_places places

-- ` NAME@R=COUNT`
abbrev pub full_slot_text : FullSlot → List ℕ
full_slot_text full = codes " " ++ full.name ++ codes "@" ++ decimal full.revision ++ codes "=" ++ decimal full.count

-- the maps that are too large, where there are any
abbrev pub full_text : List FullSlot → List ℕ
full_text [] = []
full_text (full ∷ others) = codes " full" ++ flat_map full_slot_text (full ∷ others)

-- ---- refusals

-- `#RULE`, or `#RULE.SECTION[ENTRY]`
abbrev pub fault_place_text : ℕ → Option (Section × ℕ) → List ℕ
fault_place_text rule None = codes "#" ++ decimal rule
fault_place_text rule (Some at) = codes "#" ++ decimal rule ++ codes "." ++ entry_text at.0 at.1

-- the detail of a fault is behind one space; of most there is none
abbrev pub named : List ℕ → List ℕ
named name = codes " " ++ printable name

abbrev pub rule_detail : RuleFault → List ℕ
rule_detail fault = codes " " ++ fault_place_text fault.rule fault.«at»

abbrev pub doc_detail : DocFault → List ℕ
doc_detail doc.NotPolicy = []
doc_detail doc.NoName = []
doc_detail doc.NoSpec = []
doc_detail (doc.UnknownMember path) = named path
doc_detail (doc.Unsupported name) = named name
doc_detail (doc.WrongShape path) = named path

abbrev pub line_detail : LineFault → List ℕ
line_detail line.Json = []
line_detail line.NoOp = []
line_detail (line.BadField member) = named member
line_detail (line.UnknownField member) = named member
line_detail (line.Doc fault) = doc_detail fault
line_detail (line.Rule fault) = rule_detail fault
line_detail line.BadLabel = []
line_detail line.DuplicateLabelKey = []
line_detail line.BadAddress = []

abbrev pub line_fault_text : LineFault → List ℕ
line_fault_text fault = line_fault_name fault ++ line_detail fault

-- ---- answers

abbrev pub identity_text : Option ℕ → List ℕ
identity_text None = []
identity_text (Some number) = codes " identity " ++ decimal number

abbrev pub trace_text : ℕ → Trace → List ℕ
trace_text revision trace =
    codes "trace " ++ word_text trace.word ++ at_text revision ++ codes " remote " ++ decimal trace.remote
    ++ codes " denies " ++ places_text trace.denies ++ codes " allows " ++ places_text trace.allows

abbrev pub answer_words : Answer → List ℕ
answer_words (answer.Committed revision identity) = codes "ok " ++ decimal revision ++ identity_text identity
answer_words (answer.Synced revision full) = codes "synced " ++ decimal revision ++ full_text full
answer_words (answer.Phase number) = codes "phase " ++ decimal number
answer_words (answer.Verdict revision word) = word_text word ++ at_text revision
answer_words (answer.NoEndpoint revision) = codes "noendpoint" ++ at_text revision
answer_words (answer.NotYet revision) = codes "notyet" ++ at_text revision
answer_words (answer.Traced revision trace) = trace_text revision trace
answer_words (answer.BadLine fault) = codes "refused " ++ line_fault_text fault
answer_words (answer.Refused refused) = codes "refused " ++ fault_name refused.fault ++ at_text refused.revision

-- the line of an answer
abbrev pub text_of : Answer → List ℕ
text_of answer = answer_words answer ++ newline ∷ []

-- the lines of the answers
abbrev pub texts_of : List Answer → List ℕ
texts_of answers = flat_map text_of answers

-- ---- what the law of answers speaks of

abbrev pub has_plain_key : Place → Bool
has_plain_key place = is_one_line place.key.namespace && is_one_line place.key.name

abbrev pub has_plain_name : FullSlot → Bool
has_plain_name full = is_one_line full.name

-- no name that is printed as it is holds a newline
abbrev pub has_plain_names : Answer → Bool
has_plain_names (answer.Synced revision full) = list_all has_plain_name full
has_plain_names (answer.Traced revision trace) = list_all has_plain_key trace.denies && list_all has_plain_key trace.allows
has_plain_names other = true
