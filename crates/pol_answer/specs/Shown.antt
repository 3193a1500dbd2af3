-- What the text of an answer tells: all of it, but for the bytes of names that are printed as `?`. And which answers
-- have names, keys and fault numbers such as reading gives, and numbers of 64 bits.
use Rattle.std.specs.Prelude.{ℕ, ◌^◌, ◌==◌, ◌&&◌, nat_lt, Bool, true, if◌then◌else◌, length, Option, None, Some, is_some}
use Rattle.std.specs.List.{list_all}
use Rattle.pol_json.specs.Texts.{is_name, is_dns_name, printable}
use Rattle.pol_json.specs.declared.fault.DocFault.{DocFault}
use Rattle.pol_json.specs.declared.fault.DocFault.TheVariants as doc
use Rattle.pol_model.specs.declared.answer.FullSlot.{FullSlot}
use Rattle.pol_rule.specs.Causes.{cause_of}
use Rattle.pol_rule.specs.declared.fault.RuleFault.{RuleFault}
use Rattle.pol_rule.specs.declared.policy.Place.{Place}
use Rattle.pol_rule.specs.declared.policy.PolicyKey.{PolicyKey}
use Rattle.pol_rule.specs.declared.policy.Section.{Section}
use Rattle.pol_script.specs.Names.{is_applied_name}
use Rattle.pol_script.specs.declared.line_fault.LineFault.{LineFault}
use Rattle.pol_script.specs.declared.line_fault.LineFault.TheVariants as line
use Rattle.pol_answer.specs.declared.answer.Answer.{Answer}
use Rattle.pol_answer.specs.declared.answer.Answer.TheVariants as answer

-- ---- what is told

abbrev pub shown_document : DocFault → DocFault
shown_document doc.NotPolicy = doc.NotPolicy
shown_document doc.NoName = doc.NoName
shown_document doc.NoSpec = doc.NoSpec
shown_document (doc.UnknownMember path) = doc.UnknownMember (printable path)
shown_document (doc.Unsupported name) = doc.Unsupported (printable name)
shown_document (doc.WrongShape path) = doc.WrongShape (printable path)

abbrev pub shown_fault : LineFault → LineFault
shown_fault line.Json = line.Json
shown_fault line.NoOp = line.NoOp
shown_fault (line.BadField member) = line.BadField (printable member)
shown_fault (line.UnknownField member) = line.UnknownField (printable member)
shown_fault (line.Doc fault) = line.Doc (shown_document fault)
shown_fault (line.Rule fault) = line.Rule fault
shown_fault line.BadLabel = line.BadLabel
shown_fault line.DuplicateLabelKey = line.DuplicateLabelKey
shown_fault line.BadAddress = line.BadAddress

-- the answer, with each byte of a member's name as it is printed
abbrev pub shown : Answer → Answer
shown (answer.BadLine fault) = answer.BadLine (shown_fault fault)
shown other = other

-- ---- answers whose parts are such as reading gives

abbrev pub is_u64 : ℕ → Bool
is_u64 number = nat_lt number (2 ^ 64)

-- the key of a policy that was applied: a cluster-wide one has no namespace, any other has one
abbrev pub is_applied_key : PolicyKey → Bool
is_applied_key key =
    is_applied_name key.name && (if key.cluster_wide then length key.namespace == 0 else is_dns_name key.namespace)

abbrev pub is_read_place : Place → Bool
is_read_place place = is_applied_key place.key && is_u64 place.rule && is_u64 place.entry

abbrev pub is_read_slot : FullSlot → Bool
is_read_slot full = is_name full.name && is_u64 full.revision && is_u64 full.count

abbrev pub is_read_entry : Option (Section × ℕ) → Bool
is_read_entry None = true
is_read_entry (Some at) = is_u64 at.1

-- the number is one that a cause has
abbrev pub is_read_rule_fault : RuleFault → Bool
is_read_rule_fault fault = is_some (cause_of fault.number) && is_u64 fault.rule && is_read_entry fault.«at»

abbrev pub is_read_fault : LineFault → Bool
is_read_fault (line.Rule fault) = is_read_rule_fault fault
is_read_fault other = true

abbrev pub is_read_identity : Option ℕ → Bool
is_read_identity None = true
is_read_identity (Some number) = is_u64 number

abbrev pub has_read_parts : Answer → Bool
has_read_parts (answer.Committed revision identity) = is_u64 revision && is_read_identity identity
has_read_parts (answer.Synced revision full) = is_u64 revision && list_all is_read_slot full
has_read_parts (answer.Phase number) = is_u64 number
has_read_parts (answer.Verdict revision word) = is_u64 revision
has_read_parts (answer.NoEndpoint revision) = is_u64 revision
has_read_parts (answer.NotYet revision) = is_u64 revision
has_read_parts (answer.Traced revision trace) =
    is_u64 revision && is_u64 trace.remote && list_all is_read_place trace.denies && list_all is_read_place trace.allows
has_read_parts (answer.BadLine fault) = is_read_fault fault
has_read_parts (answer.Refused refused) = is_u64 refused.revision
