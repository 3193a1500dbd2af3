-- How many changes there are: as they begin, and after they were cut.
use Rattle.std.proofs.Common.{◌≡◌, List, [], length, refl, arith}
use Rattle.std.proofs.lemmas.List.{length-map}
use Rattle.pol_mapkey.specs.Entries.{Entry}
use Rattle.pol_map_changes.specs.declared.change.Change.{Change}
use Rattle.pol_map_changes.specs.declared.change.Change.TheVariants.{Set}
use Rattle.pol_map_changes.specs.Changes.{AreFew, IsAscending, changed, table_of, whole}
use Rattle.pol_map_changes.proofs.LeavingOut.{few_lead}
use Rattle.pol_kept_map.specs.Work.{WorkOf, map_of}
use Rattle.pol_kept_map.proofs.Works.{is_table}
use Rattle.pol_slot_map.specs.Base.{IsFew}

pub none_few : (before after : List Entry) → IsFew [] before after
none_few before after = omega arith

pub whole_few : (before after : List Entry) → IsFew (whole after) before after
whole_few before after =
    let same : length (whole after) ≡ length after = length-map after (λ (e : Entry). Set e.0 e.1) in
    omega (arith, same)

-- what is left beside a base is no more than base and map have
pub left_few : (before : List Entry) (work : WorkOf) (changes : List Change) → IsAscending changes → AreFew (whole before) changes
    → changed changes (table_of before) ≡ table_of (map_of work) → IsFew changes before (map_of work)
left_few before work changes up few leads =
    let fewer = few_lead before changes up few (map_of work) (is_table (map_of work) work.filters work.rows refl) leads in
    omega (arith, fewer)
