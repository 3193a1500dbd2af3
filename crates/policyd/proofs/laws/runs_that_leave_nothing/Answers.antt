use Rattle.std.proofs.Common.{◌≡◌, ℕ, Bool, true, false, List, [], ◌∷◌, length, map, ap, refl, subst, sym, ◌∙◌, arith}
use Rattle.pol_answer.specs.Text.{texts_of}
use Rattle.pol_answer.specs.declared.answer.Answer.{Answer}
use Rattle.pol_generated.specs.Requests.{requests_asked}
use Rattle.pol_history.specs.Commits.{commits_in}
use Rattle.pol_history.specs.ExampleEvents.{commit, open_map, publish, web_since}
use Rattle.pol_history.specs.Legal.{IsLegal}
use Rattle.pol_history.specs.declared.event.HistoryEvent.{HistoryEvent}
use Rattle.pol_history.proofs.LegalEvents.{each_legal}
use Rattle.pol_history.proofs.Lists.{no_element}
use Rattle.pol_model.specs.declared.request.Request.{Request}
use Rattle.pol_run_laws.proofs.Held.{histories_hold}
use Rattle.pol_run_laws.proofs.Places.{same_element}
use Rattle.pol_run_laws.proofs.Placing.{placed_so}
use Rattle.policyd.proofs.laws.runs_that_leave_nothing.Goals as goal

pub returns-clause-is : goal.returns-clause-is
returns-clause-is c = λ options. record {
  text = [];
  history = [];
  seen = refl;
  holds = record {
    answers = [];
    one_each = refl;
    texts = refl;
    legal = each_legal options [] tt;
    holds = histories_hold options [] [] (each_legal options [] tt) (placed_so options [] [] [] tt refl refl);
  };
  written = refl;
}

pub returns-clause-nothing_seen : goal.returns-clause-nothing_seen
returns-clause-nothing_seen c = λ options old new script it. no_element it.history it.seen

-- ---- the text

none : (answers : List Answer) → length answers ≡ 0 → answers ≡ []
none [] is = refl
none (told ∷ answers) is = absurd (omega (arith, is))

pub returns-clause-not_written : goal.returns-clause-not_written
returns-clause-not_written c = λ options it.
    let nothing = it.holds.texts ∙ ap texts_of (none it.holds.answers it.holds.one_each) in
    let wrong : 1 ≡ 0 = ap (λ (text : List ℕ). length text) (it.written ∙ nothing) in omega (arith, wrong)

pub returns-clause-another_text : goal.returns-clause-another_text
returns-clause-another_text c = λ options it.
    let wrong : 1 ≡ 0 = ap (λ (text : List ℕ). length text) (it.texts ∙ ap texts_of (none it.answers it.one_each)) in omega (arith, wrong)

abbrev is_empty : List ℕ → Bool
is_empty [] = true
is_empty (code ∷ codes) = false

pub returns-clause-answer_to_no_line : goal.returns-clause-answer_to_no_line
returns-clause-answer_to_no_line c = λ options it.
    let wrong : false ≡ true = ap is_empty (it.texts ∙ ap texts_of (none it.answers it.one_each)) in cc

-- ---- the history

pub returns-clause-not_held : goal.returns-clause-not_held
returns-clause-not_held c = λ options it.
    let wrong : 1 ≡ 0 = ap (λ (requests : List Request). length requests) it.holds.commits in omega (arith, wrong)

pub returns-clause-not_legal : goal.returns-clause-not_legal
returns-clause-not_legal c = λ options it. no_element open_map (it.legal.table 0 (web_since 1) 1 open_map refl)

-- ---- generated scripts

pub returns-clause-no_rounds_seen : goal.returns-clause-no_rounds_seen
returns-clause-no_rounds_seen c = λ options rounds it. no_element it.history it.seen

pub returns-clause-rounds_not_asked : goal.returns-clause-rounds_not_asked
returns-clause-rounds_not_asked c = λ options it.
    let nothing : [] ≡ it.history = same_element [] it.history it.seen in
    let wrong : 0 ≡ 32 = ap (λ (requests : List Request). length requests) (ap commits_in nothing ∙ it.holds.commits) in omega (arith, wrong)

-- with a report in front of all commits
abbrev reported_first : List HistoryEvent
reported_first = publish 1 1 open_map ∷ map (commit 0 0) (requests_asked 0)

pub returns-clause-rounds_not_legal : goal.returns-clause-rounds_not_legal
returns-clause-rounds_not_legal c = λ options it.
    let legal = subst (IsLegal options) (sym (same_element reported_first it.history it.seen)) it.legal in
    let lives = legal.live 0 (web_since 1) 1 (record { event = publish 1 1 open_map; there = refl; reports = (refl, refl) }) in
    no_element lives.row lives.found
