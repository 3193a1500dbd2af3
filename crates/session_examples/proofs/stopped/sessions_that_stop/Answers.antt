use Rattle.std.proofs.Common.{◌≡◌, suc, List, [], ◌∷◌, ◌++◌, length, slice_get, zip, Some, Ok, refl, sym, ap, subst, ◌∙◌, append-nil, arith}
use Rattle.pol_model.specs.declared.answer.Fault.TheVariants.{DuplicateEndpoint}
use Rattle.pol_answer.specs.declared.answer.Answer.{Answer}
use Rattle.pol_answer.specs.declared.answer.Answer.TheVariants as answer
use Rattle.pol_script.specs.declared.command.Command.{Command}
use Rattle.pol_run.specs.ExampleLines.{add_web, first_number, unlimited}
use Rattle.pol_history.specs.declared.event.HistoryEvent.{HistoryEvent}
use Rattle.pol_history.specs.declared.event.HistoryEvent.TheVariants as event
use Rattle.pol_history.specs.Legal.{IsLegal}
use Rattle.pol_history.proofs.LegalEvents.{each_legal, legal_follows}
use Rattle.pol_history.proofs.Lists.{no_element}
use Rattle.pol_history.proofs.Small.{some_is_none}
use Rattle.pol_run_laws.specs.Placed.{Allows}
use Rattle.pol_run_laws.specs.Session.{PlaysOn, requests_done}
use Rattle.pol_sessions.specs.Sessions.{HasStopped}
use Rattle.session_examples.specs.Stopped.{adds, added, done, new_pass, of_another, of_both, sets, twice}
use Rattle.session_examples.proofs.stopped.sessions_that_stop.Goals as goal

-- ---- what is so

both_legal : IsLegal unlimited of_both
both_legal = each_legal unlimited of_both (record { no_fault = refl; next = refl }, (record { no_fault = refl; next = refl }, tt))

pub returns-clause-behind_a_line : goal.returns-clause-behind_a_line
returns-clause-behind_a_line c = record {
  played = adds ∷ [];
  left = sets ∷ [];
  cut = refl;
  answers = answer.Committed 1 first_number ∷ [];
  then = done added;
  gone_on = record {
    number = refl;
    own = add_web ∷ [];
    played = record {
      one_each = refl;
      plays = (
        added,
        (added, refl),
        (1, record { place = 0; number = 0; there = refl; past = omega arith; revision = refl; identity = refl; slots = refl }),
        refl,
      );
      committed = refl;
    };
    grows = record { goes_on = (added, refl); legal = each_legal unlimited added (record { no_fault = refl; next = refl }, tt); mine = refl };
  };
  nothing = record { number = refl; grows = record { goes_on = (of_another, refl); legal = both_legal; mine = refl } };
}

pub returns-clause-at_the_first : goal.returns-clause-at_the_first
returns-clause-at_the_first c = record {
  played = [];
  left = adds ∷ [];
  cut = refl;
  answers = [];
  then = new_pass;
  gone_on = record {
    number = refl;
    own = [];
    played = record { one_each = refl; plays = refl; committed = refl };
    grows = record { goes_on = ([], refl); legal = each_legal unlimited [] tt; mine = refl };
  };
  nothing = record {
    number = refl;
    grows = record { goes_on = (of_another, refl); legal = each_legal unlimited of_another (record { no_fault = refl; next = refl }, tt); mine = refl };
  };
}

-- ---- what isn't

none_in_front : {X : Type 0} (xs ys : List X) → xs ++ ys ≡ [] → xs ≡ []
none_in_front [] ys is = refl
none_in_front (x ∷ xs) ys is = absurd cc

-- what the pass has committed is what was played
committed : (lines : List Command) (history : List HistoryEvent) (it : HasStopped unlimited new_pass lines (done history))
    → requests_done (zip it.played it.answers) ≡ add_web ∷ []
committed lines history it =
    sym it.gone_on.played.committed ∙ sym it.gone_on.grows.mine ∙ sym (append-nil it.then.has.mine) ∙ sym it.nothing.grows.mine

sets_nothing_up : (a : Answer) → requests_done ((sets, a) ∷ []) ≡ add_web ∷ [] → ⊥
sets_nothing_up (answer.Committed revision identity) own = cc
sets_nothing_up _ own = cc

-- one line was played, or none
only_sets : (played left : List Command) (answers : List Answer) → played ++ left ≡ sets ∷ [] → requests_done (zip played answers) ≡ add_web ∷ [] → ⊥
only_sets [] left answers cut own = cc
only_sets (c ∷ played) left [] cut own = cc
only_sets (c ∷ played) left (a ∷ answers) cut own =
    let none : played ≡ [] = none_in_front played left cc in
    let first : c ≡ sets = cc in
    sets_nothing_up a (sym (λ i. requests_done (zip (first i ∷ none i) (a ∷ answers))) ∙ own)

pub returns-clause-of_no_line : goal.returns-clause-of_no_line
returns-clause-of_no_line c = λ it. only_sets it.played it.left it.answers it.cut (committed (sets ∷ []) of_both it)

-- a commit that was answered `ok` stands in the history
unseen : (a : Answer) (next : List HistoryEvent) → next ≡ [] → Allows unlimited 1 [] next (Ok adds) a → requests_done ((adds, a) ∷ []) ≡ add_web ∷ [] → ⊥
unseen (answer.Committed revision identity) next none allowed own =
    no_element (event.Commit 1 allowed.1.number add_web)
    (subst (λ (h : List HistoryEvent). slice_get h allowed.1.place ≡ Some (event.Commit 1 allowed.1.number add_web)) none allowed.1.there)
unseen _ next none allowed own = cc

only_adds : (played left : List Command) (answers : List Answer) (then : List HistoryEvent) → played ++ left ≡ adds ∷ [] → then ≡ []
    → PlaysOn unlimited 1 [] then (zip played answers) → requests_done (zip played answers) ≡ add_web ∷ [] → ⊥
only_adds [] left answers then cut none plays own = cc
only_adds (c ∷ played) left [] then cut none plays own = cc
only_adds (c ∷ played) left (a ∷ answers) then cut none plays own =
    let nothing : played ≡ [] = none_in_front played left cc in
    let first : c ≡ adds = cc in
    let same : zip (c ∷ played) (a ∷ answers) ≡ zip (adds ∷ []) (a ∷ answers) = λ i. zip (first i ∷ nothing i) (a ∷ answers) in
    let one = subst (PlaysOn unlimited 1 [] then) same plays in
    unseen a one.0 (one.3 ∙ none) one.2 (sym (ap requests_done same) ∙ own)

pub returns-clause-not_committed : goal.returns-clause-not_committed
returns-clause-not_committed c = λ it.
    only_adds it.played it.left it.answers it.then.has.history it.cut (none_in_front it.then.has.history it.nothing.grows.goes_on.0 it.nothing.grows.goes_on.1)
    it.gone_on.played.plays (committed (adds ∷ []) [] it)

pub returns-clause-of_another_pass : goal.returns-clause-of_another_pass
returns-clause-of_another_pass c = λ it. omega (arith, it.nothing.number, it.gone_on.number)

pub returns-clause-goes_back : goal.returns-clause-goes_back
returns-clause-goes_back c = λ it.
    let none = none_in_front it.then.has.history it.nothing.grows.goes_on.0 it.nothing.grows.goes_on.1 in
    let some : suc (length it.gone_on.grows.goes_on.0) ≡ 0 = ap (λ (h : List HistoryEvent). length h) (it.gone_on.grows.goes_on.1 ∙ none) in
    omega (arith, some)

pub returns-clause-not_legal : goal.returns-clause-not_legal
returns-clause-not_legal c = λ it. some_is_none DuplicateEndpoint (legal_follows unlimited twice it.nothing.grows.legal 1 (event.Commit 2 1 add_web) refl).no_fault
