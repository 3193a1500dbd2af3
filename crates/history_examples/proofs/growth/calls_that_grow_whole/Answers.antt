use Rattle.std.proofs.Common.{◌≡◌, List, [], length, refl, ap, arith}
use Rattle.pol_model.specs.declared.request.Request.{Request}
use Rattle.pol_history.specs.ExampleEvents.{at_most}
use Rattle.pol_history.specs.Legal.{IsLegal}
use Rattle.pol_history.proofs.LegalEvents.{each_legal}
use Rattle.history_examples.specs.Histories as history
use Rattle.history_examples.proofs.growth.calls_that_grow_whole.Goals as goal

legal : IsLegal (at_most 2) history.added
legal = each_legal (at_most 2) history.added (record { no_fault = refl; next = refl }, tt)

pub returns-clause-is : goal.returns-clause-is
returns-clause-is c = record { grows = record { goes_on = (history.added, refl); legal = legal; mine = refl }; commits = refl }

pub returns-clause-of_another : goal.returns-clause-of_another
returns-clause-of_another c = record { grows = record { goes_on = (history.added, refl); legal = legal; mine = refl }; commits = refl }

pub returns-clause-grows_without : goal.returns-clause-grows_without
returns-clause-grows_without c = record { goes_on = (history.added, refl); legal = legal; mine = refl }

pub returns-clause-not_whole : goal.returns-clause-not_whole
returns-clause-not_whole c = λ it. let many : 1 ≡ 0 = ap (λ (l : List Request). length l) it.commits in omega (arith, many)

pub returns-clause-grows_unseen : goal.returns-clause-grows_unseen
returns-clause-grows_unseen c = record { goes_on = ([], refl); legal = each_legal (at_most 2) [] tt; mine = refl }

pub returns-clause-not_seen : goal.returns-clause-not_seen
returns-clause-not_seen c = λ it. let many : 0 ≡ 1 = ap (λ (l : List Request). length l) it.commits in omega (arith, many)
