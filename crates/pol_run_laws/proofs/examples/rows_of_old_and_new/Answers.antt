use Rattle.std.proofs.Common.{◌≡◌, ℕ, zero, suc, ◌<◌, List, [], ◌∷◌, take, slice_get, Some, refl, ap, sym, ◌∙◌, subst, arith}
use Rattle.std.specs.List.{AllByRecursion}
use Rattle.pol_model.specs.declared.answer.FullSlot.{FullSlot}
use Rattle.pol_history.specs.declared.event.EndpointId.{EndpointId}
use Rattle.pol_history.specs.declared.event.HistoryEvent.{HistoryEvent}
use Rattle.pol_history.specs.declared.event.HistoryEvent.TheVariants as event
use Rattle.pol_history.specs.Calls.{IsRowOf}
use Rattle.pol_history.specs.Commits.{Lives, state_after, state_now}
use Rattle.pol_history.specs.Reports.{IsReport}
use Rattle.pol_history.proofs.LegalEvents.{each_legal}
use Rattle.pol_run.specs.ExampleLines.{full, one_entry, web}
use Rattle.pol_run.specs.RightRuns as lines
use Rattle.pol_run.proofs.Examples.{web_since}
use Rattle.pol_run_laws.specs.Examples as history
use Rattle.pol_history.proofs.Lists.{no_element}
use Rattle.pol_run_laws.proofs.Places.{element_at, same_element}
use Rattle.pol_run_laws.proofs.Placing.{placed_so}
use Rattle.pol_run_laws.proofs.Sole.{only_live}
use Rattle.pol_run_laws.proofs.examples.rows_of_old_and_new.Goals as goal

pub returns-clause-legal : goal.returns-clause-legal
returns-clause-legal c =
    each_legal one_entry history.rows_of_old_and_new (
      record { no_fault = refl; next = refl },
      (
        record {
          report = record {
            live = record { row = web_since 1; found = refl };
            committed = omega arith;
            since_added = omega arith;
            newer = tt;
            no_older_commits = tt;
          };
          size = refl;
          too_many = refl;
        },
        (
          record { no_fault = refl; next = refl },
          (
            record { no_fault = refl; next = refl },
            (
              record {
                report = record {
                  live = record { row = web_since 3; found = refl };
                  committed = omega arith;
                  since_added = omega arith;
                  newer = tt;
                  no_older_commits = tt;
                };
                size = refl;
                too_many = refl;
              },
              tt,
            ),
          ),
        ),
      ),
    )

-- the revision of a map that was blocked, and its endpoint
abbrev blocked_at : HistoryEvent → ℕ
blocked_at (event.Blocked endpoint revision count) = revision
blocked_at other = 0

abbrev blocked_of : EndpointId → HistoryEvent → EndpointId
blocked_of none (event.Blocked endpoint revision count) = endpoint
blocked_of none other = none

-- the maps of one revision are of the endpoint that was added there
abbrev IsOfOne : ℕ → HistoryEvent → Type 0
IsOfOne revision e = blocked_at e ≡ revision → blocked_of (history.web_of revision) e ≡ history.web_of revision

differs : (m n : ℕ) {X : Type 0} → m < n → m ≡ n → X
differs m n less same = absurd (omega (arith, less, same))

first_blocked : AllByRecursion (IsOfOne 1) history.rows_of_old_and_new
first_blocked = (λ same. refl, (λ same. refl, (λ same. refl, (λ same. refl, (λ same. differs 1 3 (omega arith) (sym same), tt)))))

second_blocked : AllByRecursion (IsOfOne 3) history.rows_of_old_and_new
second_blocked = (λ same. refl, (λ same. differs 1 3 (omega arith) same, (λ same. refl, (λ same. refl, (λ same. refl, tt)))))

-- so no endpoint has both rows
not_both : (endpoint : EndpointId) → endpoint ≡ history.web_of 1 → endpoint ≡ history.web_of 3 → ⊥
not_both endpoint first second =
    let added : 1 ≡ 3 = ap (λ (e : EndpointId). e.added) (sym first ∙ second) in
    omega (arith, added)

one_row : (revision place : ℕ) (endpoint : EndpointId) (count : ℕ) → AllByRecursion (IsOfOne revision) history.rows_of_old_and_new
    → slice_get history.rows_of_old_and_new place ≡ Some (event.Blocked endpoint revision count) → endpoint ≡ history.web_of revision
one_row revision place endpoint count every there =
    element_at (IsOfOne revision) history.rows_of_old_and_new place (event.Blocked endpoint revision count) every there refl

abbrev rows : List FullSlot
rows = full web 1 2 ∷ full web 3 2 ∷ []

abbrev IsRowHere : EndpointId → FullSlot → Type 0
IsRowHere endpoint row = IsRowOf (take 1 history.rows_of_old_and_new) history.rows_of_old_and_new 1 endpoint row

apart : (a b : ℕ) (first second : FullSlot) (endpoint : EndpointId) → a < b → slice_get rows a ≡ Some first → slice_get rows b ≡ Some second
    → IsRowHere endpoint first → IsRowHere endpoint second → ⊥
apart zero zero first second endpoint less is_first is_second one other = omega (arith, less)
apart zero (suc zero) first second endpoint less is_first is_second one other =
    let a = subst (IsRowHere endpoint) (sym (same_element (full web 1 2) first is_first)) one in
    let b = subst (IsRowHere endpoint) (sym (same_element (full web 3 2) second is_second)) other in
    not_both endpoint (one_row 1 a.place endpoint 2 first_blocked a.there) (one_row 3 b.place endpoint 2 second_blocked b.there)
apart zero (suc (suc b)) first second endpoint less is_first is_second one other = no_element second is_second
apart (suc zero) zero first second endpoint less is_first is_second one other = omega (arith, less)
apart (suc zero) (suc zero) first second endpoint less is_first is_second one other = omega (arith, less)
apart (suc zero) (suc (suc b)) first second endpoint less is_first is_second one other = no_element second is_second
apart (suc (suc a)) b first second endpoint less is_first is_second one other = no_element first is_first

-- no endpoint is live at both
none_stays : (endpoint : EndpointId) → Lives (state_after one_entry history.rows_of_old_and_new 1) endpoint
    → Lives (state_now one_entry history.rows_of_old_and_new) endpoint → ⊥
none_stays endpoint then now =
    not_both endpoint (sym (only_live (state_after one_entry history.rows_of_old_and_new 1) (web_since 1) endpoint refl then))
    (sym (only_live (state_now one_entry history.rows_of_old_and_new) (web_since 3) endpoint refl now))

-- the event at a place is the last one of those up to it
none_between : (place later : ℕ) (endpoint : EndpointId) (other : ℕ) → place < later → later < suc place
    → IsReport history.rows_of_old_and_new later endpoint other → ⊥
none_between place later endpoint other after among report = omega (arith, after, among)

pub returns-clause-placed : goal.returns-clause-placed
returns-clause-placed c =
    placed_so one_entry history.rows_of_old_and_new lines.rows_of_old_and_new ((0, 1) ∷ (1, 3) ∷ (3, 4) ∷ (1, 5) ∷ []) (
      record {
        grows = refl;
        within = refl;
        own = refl;
        allowed = (1, record { place = 0; number = 0; there = refl; past = omega arith; revision = refl; identity = refl; slots = refl });
      },
      (
        record {
          grows = refl;
          within = refl;
          own = refl;
          allowed = (0, record { place = 2; number = 1; there = refl; past = omega arith; revision = refl; identity = refl; slots = refl });
        },
        (
          record {
            grows = refl;
            within = refl;
            own = refl;
            allowed = (1, record { place = 3; number = 2; there = refl; past = omega arith; revision = refl; identity = refl; slots = refl });
          },
          (
            record {
              grows = refl;
              within = refl;
              own = refl;
              allowed = record {
                between = record { from = omega arith; upto = omega arith };
                rows = (
                  record {
                    endpoint = history.web_of 1;
                    is = record {
                      name = refl;
                      place = 1;
                      there = refl;
                      counts = record {
                        newer = omega arith;
                        prefix = 2;
                        begins = omega arith;
                        within = omega arith;
                        last = record {
                          report = record { event = _; there = refl; reports = (refl, refl) };
                          among = omega arith;
                          none_after = λ later other. none_between 1 later (history.web_of 1) other;
                        };
                      };
                    };
                  },
                  (
                    record {
                      endpoint = history.web_of 3;
                      is = record {
                        name = refl;
                        place = 4;
                        there = refl;
                        counts = record {
                          newer = omega arith;
                          prefix = 5;
                          begins = omega arith;
                          within = omega arith;
                          last = record {
                            report = record { event = _; there = refl; reports = (refl, refl) };
                            among = omega arith;
                            none_after = λ later other. none_between 4 later (history.web_of 3) other;
                          };
                        };
                      };
                    },
                    tt,
                  ),
                );
                distinct = apart;
                sorted = (refl, tt);
                complete = λ endpoint then now. absurd (none_stays endpoint then now);
              };
            },
            tt,
          ),
        ),
      ),
    ) refl refl
