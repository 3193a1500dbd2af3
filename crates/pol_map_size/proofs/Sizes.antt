-- Sizes of the parts of a map.
use Rattle.std.proofs.Common.{◌≡◌, ◌+◌, ◌-◌, ◌^◌, ◌<◌, ℕ, Bool, true, false, not, ◌&&◌, nat_lt, cond, List, [], ◌∷◌, length, filter, take, count_by, Option, Some, None, refl, sym, ◌∙◌, ap, arith}
use Rattle.std.proofs.lemmas.Bool.{both_ways, le-ltb, lt-ltb, ltb-true}
use Rattle.std.proofs.lemmas.List.Sums.{count_by_more_no, count_by_more_yes, length-filter}
use Rattle.std.proofs.lemmas.Option.{get_or_from_slice_get, slice_get_within}
use Rattle.std.specs.List.{slice_get}
use Rattle.pol_mapkey.specs.Entries.{Entry}
use Rattle.pol_sets.specs.declared.sets.SetRow.{SetRow}
use Rattle.pol_sets.specs.Sets.{set_given}
use Rattle.pol_filters.specs.declared.filter.Filters.{Filters}
use Rattle.pol_filters.specs.FilterParts.{filter_parts}
use Rattle.pol_distill.specs.Distilled.{distilled}
use Rattle.pol_map_size.specs.Part.{ArePartsOf, IsBelow, is_between, is_in, part_size}
use Rattle.pol_map_size.proofs.Parts.{map_in}
use Rattle.pol_map_size.proofs.Rows.{given_part}

-- how many numbers of a program are of the part
abbrev pub room : ℕ → Option ℕ → ℕ
room from None = 2 ^ 32 - from
room from (Some end) = end - from

-- the map of the rows of a part has as many entries of the part
pub same_size : (from : ℕ) (end : Option ℕ) (filters : Filters) (rows parts : List SetRow) → ArePartsOf from end rows parts
    → part_size from end (distilled filters parts) ≡ part_size from end (distilled filters rows)
same_size from end filters rows parts are =
    sym (length-filter (is_in from end) (distilled filters parts))
    ∙ ap length (sym (map_in from end (set_given rows) (set_given parts) (given_part from end rows parts are) (filter_parts filters)))
    ∙ length-filter (is_in from end) (distilled filters rows)

-- each half has fewer numbers
pub room_low : (from cut : ℕ) (end : Option ℕ) → from < cut → cut < 2 ^ 32 → IsBelow cut end → cut - from < room from end
room_low from cut None above small is = omega (arith, above, small)
room_low from cut (Some end) above small is = let less : cut < end = is in omega (arith, above, less)

pub room_high : (from cut : ℕ) (end : Option ℕ) → from < cut → cut < 2 ^ 32 → IsBelow cut end → room cut end < room from end
room_high from cut None above small is = omega (arith, above, small)
room_high from cut (Some end) above small is = let less : cut < end = is in omega (arith, above, less)

-- ---- one entry more
pub one_more_place : (from : ℕ) (end : Option ℕ) (entries : List Entry) (place : ℕ) (e : Entry) → slice_get entries place ≡ Some e
    → is_between from end e.0.id ≡ true → count_by (is_in from end) (take (place + 1) entries) ≡ count_by (is_in from end) (take place entries) + 1
one_more_place from end entries place e at inside =
    count_by_more_yes (is_in from end) entries place e (slice_get_within entries place e at)
    (ap (is_in from end) (get_or_from_slice_get entries place e e at) ∙ inside)

pub same_at_place : (from : ℕ) (end : Option ℕ) (entries : List Entry) (place : ℕ) (e : Entry) → slice_get entries place ≡ Some e
    → is_between from end e.0.id ≡ false → count_by (is_in from end) (take (place + 1) entries) ≡ count_by (is_in from end) (take place entries)
same_at_place from end entries place e at outside =
    count_by_more_no (is_in from end) entries place e (slice_get_within entries place e at)
    (ap (is_in from end) (get_or_from_slice_get entries place e e at) ∙ outside)

-- ---- an entry of a part is of one of the two that it is cut into
module _ (e : Entry) (low high all : List Entry) (rest : length low + length high ≡ length all) where
  one_more : (x y z : Bool) → (x ≡ true → y ≡ true) → (y ≡ true → z ≡ true)
      → length (cond (not x && y) (e ∷ low) low) + length (cond (not y && z) (e ∷ high) high) ≡ length (cond (not x && z) (e ∷ all) all)
  one_more true true true xy yz = rest
  one_more true true false xy yz = absurd (both_ways false refl (yz refl))
  one_more true false z xy yz = absurd (both_ways false refl (xy refl))
  one_more false true true xy yz = omega (arith, rest)
  one_more false true false xy yz = absurd (both_ways false refl (yz refl))
  one_more false false true xy yz = omega (arith, rest)
  one_more false false false xy yz = rest

  one_more_open : (x y : Bool) → (x ≡ true → y ≡ true)
      → length (cond (not x && y) (e ∷ low) low) + length (cond (not y) (e ∷ high) high) ≡ length (cond (not x) (e ∷ all) all)
  one_more_open true true xy = rest
  one_more_open true false xy = absurd (both_ways false refl (xy refl))
  one_more_open false true xy = omega (arith, rest)
  one_more_open false false xy = omega (arith, rest)

below : (n a b : ℕ) → a < b → nat_lt n a ≡ true → nat_lt n b ≡ true
below n a b less is = lt-ltb n b (let first = ltb-true n a is in omega arith)

module _ (from middle : ℕ) (above : from < middle) where
  two_lengths : (end : Option ℕ) → IsBelow middle end → (entries : List Entry)
      → length (filter (is_in from (Some middle)) entries) + length (filter (is_in middle end) entries) ≡ length (filter (is_in from end) entries)
  two_lengths None is [] = refl
  two_lengths (Some end) is [] = refl
  two_lengths None is (e ∷ entries) =
      one_more_open e _ _ _ (two_lengths None is entries) (nat_lt e.0.id from) (nat_lt e.0.id middle) (below e.0.id from middle above)
  two_lengths (Some end) is (e ∷ entries) =
      one_more e _ _ _ (two_lengths (Some end) is entries) (nat_lt e.0.id from) (nat_lt e.0.id middle) (nat_lt e.0.id end)
      (below e.0.id from middle above) (below e.0.id middle end is)

  pub two_parts : (end : Option ℕ) → IsBelow middle end → (entries : List Entry)
      → part_size from (Some middle) entries + part_size middle end entries ≡ part_size from end entries
  two_parts end is entries =
      (λ i. sym (length-filter (is_in from (Some middle)) entries) i + sym (length-filter (is_in middle end) entries) i)
      ∙ two_lengths end is entries
      ∙ length-filter (is_in from end) entries

-- so the sizes of the halves make the size of the part
pub two_sizes : (from cut : ℕ) (end : Option ℕ) (filters : Filters) (rows part first second : List SetRow) (low high : ℕ) → from < cut → IsBelow cut end
    → ArePartsOf from end rows part → first ≡ part → second ≡ part → low ≡ part_size from (Some cut) (distilled filters first)
    → high ≡ part_size cut end (distilled filters second) → low + high ≡ part_size from end (distilled filters rows)
two_sizes from cut end filters rows part first second low high above below are one other is_low is_high =
    (λ i. (is_low ∙ ap (λ (own : List SetRow). part_size from (Some cut) (distilled filters own)) one) i
    + (is_high ∙ ap (λ (own : List SetRow). part_size cut end (distilled filters own)) other) i)
    ∙ two_parts from cut above end below (distilled filters part)
    ∙ same_size from end filters rows part are

-- all are of the part from 0 on
all_in : (entries : List Entry) → length (filter (is_in 0 None) entries) ≡ length entries
all_in [] = refl
all_in (e ∷ entries) =
    let rest = all_in entries in
    let more : length (e ∷ filter (is_in 0 None) entries) ≡ length (e ∷ entries) = omega (arith, rest) in
    ap (λ b. length (cond (not b) (e ∷ filter (is_in 0 None) entries) (filter (is_in 0 None) entries))) (le-ltb e.0.id 0 (omega arith))
    ∙ more

pub whole_size : (entries : List Entry) → part_size 0 None entries ≡ length entries
whole_size entries = sym (length-filter (is_in 0 None) entries) ∙ all_in entries
