use Rattle.std.proofs.Common.{◌≡◌, ℕ, ◌<◌, inr, [], ◌∷◌, take, refl, subst, arith}
use Rattle.pol_history.specs.declared.event.EndpointId.{EndpointId}
use Rattle.pol_history.specs.Calls.{HasPublish}
use Rattle.pol_history.specs.Commits.{state_after}
use Rattle.pol_history.specs.Reports.{IsReport}
use Rattle.pol_history.proofs.LegalEvents.{each_legal}
use Rattle.pol_run.specs.ExampleLines.{unlimited}
use Rattle.pol_run.specs.RightRuns as lines
use Rattle.pol_run.proofs.Examples.{web_since}
use Rattle.pol_run_laws.specs.Examples as history
use Rattle.pol_run_laws.proofs.Placing.{placed_so}
use Rattle.pol_run_laws.proofs.Sole.{only_live}
use Rattle.pol_run_laws.proofs.examples.older_map.Goals as goal

pub returns-clause-legal : goal.returns-clause-legal
returns-clause-legal c =
    each_legal unlimited history.older_map (
      record { no_fault = refl; next = refl },
      (
        record { no_fault = refl; next = refl },
        (
          record {
            report = record {
              live = record { row = web_since 1; found = refl };
              committed = omega arith;
              since_added = omega arith;
              newer = tt;
              no_older_commits = tt;
            };
            canonical = refl;
            fits = refl;
          },
          (
            record {
              report = record {
                live = record { row = web_since 1; found = refl };
                committed = omega arith;
                since_added = omega arith;
                newer = omega arith;
                no_older_commits = omega arith;
              };
              canonical = refl;
              fits = refl;
            },
            tt,
          ),
        ),
      ),
    )

-- no report of any endpoint stands behind the last event
none_after : (endpoint : EndpointId) (later other : ℕ) → 3 < later → later < 4 → IsReport history.older_map later endpoint other → ⊥
none_after endpoint later other after among report = omega (arith, after, among)

-- what is live at revision 2 has a published map that counts
has_publish : (endpoint : EndpointId) → history.web_of 1 ≡ endpoint → HasPublish (take 1 history.older_map) history.older_map 2 endpoint
has_publish endpoint same =
    subst (λ (e : EndpointId). HasPublish (take 1 history.older_map) history.older_map 2 e) same (record {
      revision = 2;
      table = [];
      place = 3;
      there = refl;
      counts = record {
        newer = omega arith;
        prefix = 4;
        begins = omega arith;
        within = omega arith;
        last = record {
          report = record { event = _; there = refl; reports = (refl, refl) };
          among = omega arith;
          none_after = none_after (history.web_of 1);
        };
      };
    })

pub returns-clause-placed : goal.returns-clause-placed
returns-clause-placed c =
    placed_so unlimited history.older_map lines.older_map ((0, 1) ∷ (1, 2) ∷ (0, 1) ∷ (1, 4) ∷ (4, 4) ∷ (2, 2) ∷ (2, 3) ∷ []) (
      record {
        grows = refl;
        within = refl;
        own = refl;
        allowed = (1, record { place = 0; number = 0; there = refl; past = omega arith; revision = refl; identity = refl; slots = refl });
      },
      (
        record {
          grows = refl;
          within = refl;
          own = refl;
          allowed = (1, record { place = 1; number = 1; there = refl; past = omega arith; revision = refl; identity = refl; slots = refl });
        },
        (
          record { grows = refl; within = refl; own = refl; allowed = record { between = record { from = omega arith; upto = omega arith }; explains = refl } },
          (
            record {
              grows = refl;
              within = refl;
              own = refl;
              allowed = record {
                between = record { from = omega arith; upto = omega arith };
                rows = tt;
                distinct = λ a b first second endpoint less is_first is_second one other. cc;
                sorted = tt;
                complete = λ endpoint then now. inr (has_publish endpoint (only_live (state_after unlimited history.older_map 2) (web_since 1) endpoint refl then));
              };
            },
            (
              record { grows = refl; within = refl; own = refl; allowed = refl },
              (
                record { grows = refl; within = refl; own = refl; allowed = refl },
                (record { grows = refl; within = refl; own = refl; allowed = refl }, tt),
              ),
            ),
          ),
        ),
      ),
    ) refl refl
