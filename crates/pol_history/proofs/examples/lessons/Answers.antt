use Rattle.std.proofs.Common.{◌≡◌, suc, List, [], ◌∷◌, length, refl, ap, arith}
use Rattle.pol_model.specs.declared.options.Mode.TheVariants.{Always}
use Rattle.pol_model.specs.declared.request.Request.{Request}
use Rattle.pol_model.specs.declared.request.Request.TheVariants.{SetMode}
use Rattle.pol_history.specs.declared.event.HistoryEvent.{HistoryEvent}
use Rattle.pol_history.specs.ExampleEvents.{at_most, commit}
use Rattle.pol_history.specs.Legal.{IsLegal}
use Rattle.pol_history.specs.SmallMeetings as passes
use Rattle.pol_history.proofs.LegalEvents.{each_legal}
use Rattle.pol_history.proofs.examples.lessons.Goals as goal

legal : IsLegal (at_most 2) passes.both_commits
legal = each_legal (at_most 2) passes.both_commits (record { no_fault = refl; next = refl }, (record { no_fault = refl; next = refl }, tt))

-- two events and more are no beginning of one
too_many : (rest : List HistoryEvent) → suc (suc (length rest)) ≡ 1 → ⊥
too_many rest is = omega (arith, is)

pub returns : goal.returns
returns c = record {
  learned = record {
    grows = record { goes_on = (commit 1 0 (SetMode Always) ∷ [], refl); legal = legal; mine = refl };
    learned = ([], refl);
  };
  seen_less = λ it. too_many it.grows.goes_on.0 (ap (λ (l : List HistoryEvent). length l) it.grows.goes_on.1);
  seen_no_more = λ it. too_many it.learned.0 (ap (λ (l : List HistoryEvent). length l) it.learned.1);
  took_anothers = λ it.
      let many : 2 ≡ 1 = ap (λ (l : List Request). length l) it.grows.mine in omega (arith, many);
}
