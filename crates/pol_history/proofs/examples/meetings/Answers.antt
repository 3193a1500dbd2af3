use Rattle.std.proofs.Common.{◌≡◌, ℕ, zero, suc, List, [], ◌∷◌, length, refl, sym, ap, ◌∙◌, subst, arith}
use Rattle.std.specs.List.{AllByRecursion, Contains}
use Rattle.pol_model.specs.declared.options.Mode.TheVariants.{Always}
use Rattle.pol_model.specs.declared.request.Request.{Request}
use Rattle.pol_model.specs.declared.request.Request.TheVariants.{SetMode}
use Rattle.pol_history.specs.declared.event.HistoryEvent.{HistoryEvent}
use Rattle.pol_history.specs.ExampleEvents.{at_most, commit}
use Rattle.pol_history.specs.Legal.{IsLegal}
use Rattle.pol_history.specs.Meet.{IsOf}
use Rattle.pol_history.specs.SmallMeetings as passes
use Rattle.pol_history.proofs.LegalEvents.{each_legal}
use Rattle.pol_history.proofs.examples.meetings.Goals as goal

legal : IsLegal (at_most 2) passes.both_commits
legal = each_legal (at_most 2) passes.both_commits (record { no_fault = refl; next = refl }, (record { no_fault = refl; next = refl }, tt))

not_one : Contains {X = ℕ} (0 ∷ []) 1 → ⊥
not_one (zero, within, is) = omega (arith, is)
not_one (suc k, within, is) = omega (arith, within)

pub returns : goal.returns
returns c = record {
  met = record {
    history = passes.both_commits;
    shown = (
      record { grows = record { grows = record { goes_on = (commit 1 0 (SetMode Always) ∷ [], refl); legal = legal; mine = refl }; commits = refl }; all = refl },
      (record { grows = record { grows = record { goes_on = ([], refl); legal = legal; mine = refl }; commits = refl }; all = refl }, tt),
    );
    commits = ((0, omega arith, refl), ((1, omega arith, refl), tt));
  };
  nothing_done = λ it.
      let same : passes.one_commit ≡ passes.both_commits = it.shown.0.all ∙ sym it.shown.1.0.all in
      let many : 1 ≡ 2 = ap (λ (l : List HistoryEvent). length l) same in omega (arith, many);
  took_anothers = λ it.
      let many : 2 ≡ 1 = ap (λ (l : List Request). length l) it.shown.0.grows.grows.mine in omega (arith, many);
  not_handed_out = λ it. not_one (subst (AllByRecursion (IsOf (0 ∷ []))) (sym it.shown.1.0.all) it.commits).1.0;
}
