use Rattle.std.proofs.Common.{◌≡◌, ℕ, zero, suc, [], ◌∷◌, slice_get, Some, refl, ap, sym, arith}
use Rattle.pol_history.specs.Grows.{PassState}
use Rattle.pol_history.specs.Legal.{IsLegal}
use Rattle.pol_history.proofs.LegalEvents.{each_legal}
use Rattle.pol_history.proofs.Lists.{no_element}
use Rattle.pol_history.proofs.Small.{some_same}
use Rattle.pol_run.specs.ExampleLines.{add_web, unlimited}
use Rattle.pol_history.specs.Grows.{nothing_yet}
use Rattle.pol_run_laws.specs.Cut.{AreSeated, script_of}
use Rattle.pol_run_laws.specs.Seats.{AreNewSeats, ArePhases}
use Rattle.pol_run_laws.proofs.SeatedLines.{phases_played}
use Rattle.history_examples.specs.Sessions as sessions
use Rattle.history_examples.proofs.played.in_phases.Goals as goal

-- ---- the passes

differ : (one other : PassState) → Some (record { number = 1; has = nothing_yet }) ≡ Some one → Some (record { number = 2; has = nothing_yet }) ≡ Some other
    → one.number ≡ other.number → ⊥
differ one other first second same =
    let one_is : 1 ≡ one.number = ap (λ (s : PassState). s.number) (some_same (record { number = 1; has = nothing_yet }) one first) in
    let other_is : 2 ≡ other.number = ap (λ (s : PassState). s.number) (some_same (record { number = 2; has = nothing_yet }) other second) in
    omega (arith, one_is, other_is, same)

apart : (i j : ℕ) (one other : PassState) → slice_get sessions.seats i ≡ Some one → slice_get sessions.seats j ≡ Some other → one.number ≡ other.number → i ≡ j
apart zero zero one other first second same = refl
apart zero (suc zero) one other first second same = absurd (differ one other first second same)
apart zero (suc (suc j)) one other first second same = absurd (no_element other second)
apart (suc zero) zero one other first second same = absurd (differ other one second first (sym same))
apart (suc zero) (suc zero) one other first second same = refl
apart (suc zero) (suc (suc j)) one other first second same = absurd (no_element other second)
apart (suc (suc i)) j one other first second same = absurd (no_element one first)

new : AreNewSeats (1 ∷ 2 ∷ []) sessions.seats
new = record { some = omega arith; new = (refl, (refl, tt)); those = refl; apart = apart }

seated : AreSeated 2 sessions.readings
seated =
    (tt, ((omega arith, omega arith), ((omega arith, omega arith), ((omega arith, omega arith), (tt, ((omega arith, omega arith), ((omega arith, omega arith), tt)))))))

-- ---- the phases

legal : IsLegal unlimited sessions.history
legal = each_legal unlimited sessions.history (record { no_fault = refl; next = refl }, tt)

are : ArePhases unlimited (1 ∷ 2 ∷ []) sessions.seats (script_of 2 sessions.readings) sessions.told sessions.seats_after
are = (
  sessions.seats_after,
  record {
    history = sessions.history;
    commits = ((0, omega arith, refl), tt);
    each = (
      record {
        number = refl;
        own = add_web ∷ [];
        ends = sessions.history;
        played = record {
          one_each = refl;
          plays = (
            [],
            ([], refl),
            refl,
            (
              sessions.history,
              (sessions.history, refl),
              (1, record { place = 0; number = 0; there = refl; past = omega arith; revision = refl; identity = refl; slots = refl }),
              refl,
            ),
          );
          committed = refl;
        };
        meets = ([], refl);
        grows = record { grows = record { goes_on = (sessions.history, refl); legal = legal; mine = refl }; commits = refl };
        all = refl;
      },
      (
        record {
          number = refl;
          own = [];
          ends = [];
          played = record { one_each = refl; plays = ([], ([], refl), refl, refl); committed = refl };
          meets = (sessions.history, refl);
          grows = record { grows = record { goes_on = (sessions.history, refl); legal = legal; mine = refl }; commits = refl };
          all = refl;
        },
        tt,
      ),
    );
  },
  (
    sessions.seats_after,
    record {
      history = sessions.history;
      commits = ((0, omega arith, refl), tt);
      each = (
        record {
          number = refl;
          own = [];
          ends = sessions.history;
          played = record {
            one_each = refl;
            plays = (sessions.history, ([], refl), record { between = record { from = omega arith; upto = omega arith }; absent = refl }, refl);
            committed = refl;
          };
          meets = ([], refl);
          grows = record { grows = record { goes_on = ([], refl); legal = legal; mine = refl }; commits = refl };
          all = refl;
        },
        (
          record {
            number = refl;
            own = [];
            ends = sessions.history;
            played = record {
              one_each = refl;
              plays = (sessions.history, ([], refl), record { between = record { from = omega arith; upto = omega arith }; fault = refl }, refl);
              committed = refl;
            };
            meets = ([], refl);
            grows = record { grows = record { goes_on = ([], refl); legal = legal; mine = refl }; commits = refl };
            all = refl;
          },
          tt,
        ),
      );
    },
    refl,
  ),
)

pub returns-clause-new : goal.returns-clause-new
returns-clause-new c = new

pub returns-clause-seated : goal.returns-clause-seated
returns-clause-seated c = seated

pub returns-clause-are : goal.returns-clause-are
returns-clause-are c = are

pub returns-clause-legal : goal.returns-clause-legal
returns-clause-legal c = legal

pub returns-clause-played : goal.returns-clause-played
returns-clause-played c =
    (phases_played unlimited (1 ∷ 2 ∷ []) sessions.seats sessions.seats_after sessions.readings sessions.told new seated are 0
    (record { number = 1; has = record { history = sessions.history; mine = add_web ∷ [] } }) refl).1
