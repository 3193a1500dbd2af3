-- What `has_read_parts` asks of an answer in two halves: numbers and names, and the sizes of policies and maps.
use Rattle.std.specs.Prelude.{◌&&◌, Bool, true}
use Rattle.std.specs.List.{list_all}
use Rattle.pol_json.specs.Texts.{is_name}
use Rattle.pol_model.specs.declared.answer.FullSlot.{FullSlot}
use Rattle.pol_rule.specs.declared.policy.Place.{Place}
use Rattle.pol_answer.specs.Shown.{is_applied_key, is_read_fault, is_read_identity, is_u64}
use Rattle.pol_answer.specs.declared.answer.Answer.{Answer}
use Rattle.pol_answer.specs.declared.answer.Answer.TheVariants as answer

-- ---- numbers of revisions, phases and identities, and names

abbrev pub has_read_row : FullSlot → Bool
has_read_row full = is_name full.name && is_u64 full.revision

abbrev pub has_read_key : Place → Bool
has_read_key place = is_applied_key place.key

abbrev pub has_read_numbers : Answer → Bool
has_read_numbers (answer.Committed revision identity) = is_u64 revision && is_read_identity identity
has_read_numbers (answer.Synced revision full) = is_u64 revision && list_all has_read_row full
has_read_numbers (answer.Phase number) = is_u64 number
has_read_numbers (answer.Verdict revision word) = is_u64 revision
has_read_numbers (answer.NoEndpoint revision) = is_u64 revision
has_read_numbers (answer.NotYet revision) = is_u64 revision
has_read_numbers (answer.Traced revision trace) = is_u64 revision && list_all has_read_key trace.denies && list_all has_read_key trace.allows
has_read_numbers (answer.BadLine fault) = true
has_read_numbers (answer.Refused refused) = is_u64 refused.revision

-- ---- entries of a map, places in a policy, the other side of an explanation, and faults of rules

abbrev pub has_small_count : FullSlot → Bool
has_small_count full = is_u64 full.count

abbrev pub is_small_place : Place → Bool
is_small_place place = is_u64 place.rule && is_u64 place.entry

abbrev pub has_read_sizes : Answer → Bool
has_read_sizes (answer.Committed revision identity) = true
has_read_sizes (answer.Synced revision full) = list_all has_small_count full
has_read_sizes (answer.Phase number) = true
has_read_sizes (answer.Verdict revision word) = true
has_read_sizes (answer.NoEndpoint revision) = true
has_read_sizes (answer.NotYet revision) = true
has_read_sizes (answer.Traced revision trace) = is_u64 trace.remote && list_all is_small_place trace.denies && list_all is_small_place trace.allows
has_read_sizes (answer.BadLine fault) = is_read_fault fault
has_read_sizes (answer.Refused refused) = true
