-- With its sizes an answer has all parts such as reading gives.
use Rattle.std.proofs.Common.{◌≡◌, ◌&&◌, true, List, [], ◌∷◌, refl}
use Rattle.std.specs.Cmp.Derive.{both_true}
use Rattle.std.specs.List.{list_all}
use Rattle.pol_model.specs.declared.answer.FullSlot.{FullSlot}
use Rattle.pol_rule.specs.declared.policy.Place.{Place}
use Rattle.pol_script.proofs.ScriptLaws.{both_parts}
use Rattle.pol_answer.specs.Shown.{has_read_parts, is_read_place, is_read_slot, is_u64}
use Rattle.pol_answer.specs.declared.answer.Answer.{Answer}
use Rattle.pol_answer.specs.declared.answer.Answer.TheVariants as answer
use Rattle.answer_laws.specs.Numbers.{has_read_key, has_read_numbers, has_read_row, has_read_sizes, has_small_count, is_small_place}

rows_read : (full : List FullSlot) → list_all has_read_row full ≡ true → list_all has_small_count full ≡ true → list_all is_read_slot full ≡ true
rows_read [] named small = refl
rows_read (row ∷ full) named small =
    let names = both_parts (has_read_row row) (list_all has_read_row full) named in
    let counts = both_parts (has_small_count row) (list_all has_small_count full) small in
    both_true (both_true names.0 counts.0) (rows_read full names.1 counts.1)

place_read : (place : Place) → has_read_key place ≡ true → is_small_place place ≡ true → is_read_place place ≡ true
place_read place keyed small =
    let sizes = both_parts (is_u64 place.rule) (is_u64 place.entry) small in both_true (both_true keyed sizes.0) sizes.1

places_read : (places : List Place) → list_all has_read_key places ≡ true → list_all is_small_place places ≡ true → list_all is_read_place places ≡ true
places_read [] keyed small = refl
places_read (place ∷ places) keyed small =
    let keys = both_parts (has_read_key place) (list_all has_read_key places) keyed in
    let sizes = both_parts (is_small_place place) (list_all is_small_place places) small in
    both_true (place_read place keys.0 sizes.0) (places_read places keys.1 sizes.1)

pub sizes_left : (a : Answer) → has_read_numbers a ≡ true → has_read_sizes a ≡ true → has_read_parts a ≡ true
sizes_left (answer.Committed revision identity) numbers sizes = numbers
sizes_left (answer.Synced revision full) numbers sizes =
    let parts = both_parts (is_u64 revision) (list_all has_read_row full) numbers in both_true parts.0 (rows_read full parts.1 sizes)
sizes_left (answer.Phase number) numbers sizes = numbers
sizes_left (answer.Verdict revision word) numbers sizes = numbers
sizes_left (answer.NoEndpoint revision) numbers sizes = numbers
sizes_left (answer.NotYet revision) numbers sizes = numbers
sizes_left (answer.Traced revision trace) numbers sizes =
    let allows = both_parts (is_u64 revision && list_all has_read_key trace.denies) (list_all has_read_key trace.allows) numbers in
    let denies = both_parts (is_u64 revision) (list_all has_read_key trace.denies) allows.0 in
    let small_allows = both_parts (is_u64 trace.remote && list_all is_small_place trace.denies) (list_all is_small_place trace.allows) sizes in
    let small_denies = both_parts (is_u64 trace.remote) (list_all is_small_place trace.denies) small_allows.0 in
    both_true (both_true (both_true denies.0 small_denies.0) (places_read trace.denies denies.1 small_denies.1))
    (places_read trace.allows allows.1 small_allows.1)
sizes_left (answer.BadLine fault) numbers sizes = sizes
sizes_left (answer.Refused refused) numbers sizes = numbers

pub all_left : (answers : List Answer) → list_all has_read_numbers answers ≡ true → list_all has_read_sizes answers ≡ true → list_all has_read_parts answers ≡ true
all_left [] numbers sizes = refl
all_left (a ∷ answers) numbers sizes =
    let firsts = both_parts (has_read_numbers a) (list_all has_read_numbers answers) numbers in
    let seconds = both_parts (has_read_sizes a) (list_all has_read_sizes answers) sizes in
    both_true (sizes_left a firsts.0 seconds.0) (all_left answers firsts.1 seconds.1)
