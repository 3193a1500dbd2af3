use Rattle.std.proofs.Common.{◌≡◌, ℕ, ◌+◌, ◌<◌, ◌≤◌, zero, suc, take, refl, arith}
use Rattle.std.specs.Prelude.{⊤}
use Rattle.std.proofs.lemmas.Option.{slice_get_within}
use Rattle.pol_history.specs.declared.event.HistoryEvent.{HistoryEvent}
use Rattle.pol_history.specs.declared.event.HistoryEvent.TheVariants as event
use Rattle.pol_history.specs.Commits.{revision_of}
use Rattle.pol_history.specs.ExampleEvents.{add_web}
use Rattle.pol_run_laws.proofs.Places.{element_at, same_element}
use Rattle.history_examples.specs.Histories as history
use Rattle.history_examples.proofs.held.acceptances.Goals as goal

pub returns-clause-is : goal.returns-clause-is
returns-clause-is c = record { place = 0; number = 0; there = refl; past = omega arith; revision = refl; identity = refl; slots = refl }

abbrev IsByFirst : HistoryEvent → Type 0
IsByFirst (event.Commit pass number request) = pass ≡ 0
IsByFirst (event.Publish endpoint revision table) = ⊤
IsByFirst (event.Blocked endpoint revision count) = ⊤

pub returns-clause-of_another_pass : goal.returns-clause-of_another_pass
returns-clause-of_another_pass c = λ it.
    let no : 1 ≡ 0 = element_at IsByFirst history.added it.place (event.Commit 1 it.number add_web) (refl, tt) it.there in omega (arith, no)

pub returns-clause-seen_before : goal.returns-clause-seen_before
returns-clause-seen_before c = λ it.
    let within : it.place < 1 = slice_get_within history.added it.place (event.Commit 0 it.number add_web) it.there in
    let past : 1 ≤ it.place = it.past in omega (arith, within, past)

no_second : (place : ℕ) → place < 1 → 2 ≡ revision_of (take place history.added) + 1 → ⊥
no_second zero within is = omega (arith, is)
no_second (suc place) within is = omega (arith, within)

pub returns-clause-another_revision : goal.returns-clause-another_revision
returns-clause-another_revision c = λ it.
    no_second it.place (slice_get_within history.added it.place (event.Commit 0 it.number add_web) it.there) it.revision

pub returns-clause-another_identity : goal.returns-clause-another_identity
returns-clause-another_identity c = λ it. let no : 257 ≡ 256 = same_element 257 256 it.identity in omega (arith, no)

pub returns-clause-another_number_of_slots : goal.returns-clause-another_number_of_slots
returns-clause-another_number_of_slots c = λ it. let no : 2 ≡ 1 = it.slots in omega (arith, no)
