use Rattle.std.proofs.Common.{◌≡◌, [], ◌∷◌, refl, arith}
use Rattle.pol_answer.specs.declared.answer.Answer.TheVariants as answer
use Rattle.pol_run.specs.ExampleLines.{unlimited}
use Rattle.pol_script.specs.declared.line_fault.LineFault.TheVariants.{Json, NoOp}
use Rattle.pol_run_laws.proofs.Placing.{placed_so}
use Rattle.history_examples.specs.Sessions as sessions
use Rattle.history_examples.proofs.played.by_one_history.Goals as goal

pub returns-clause-placed : goal.returns-clause-placed
returns-clause-placed c =
    placed_so unlimited sessions.history sessions.lines ((0, 0) ∷ (0, 0) ∷ (0, 1) ∷ (0, 0) ∷ (0, 0) ∷ (1, 1) ∷ (1, 1) ∷ []) (
      refl,
      (
        record { grows = refl; within = refl; own = refl; allowed = refl },
        (
          record {
            grows = refl;
            within = refl;
            own = refl;
            allowed = (1, record { place = 0; number = 0; there = refl; past = omega arith; revision = refl; identity = refl; slots = refl });
          },
          (
            record { grows = refl; within = refl; own = refl; allowed = refl },
            (
              refl,
              (
                record { grows = refl; within = refl; own = refl; allowed = record { between = record { from = omega arith; upto = omega arith }; fault = refl } },
                (
                  record { grows = refl; within = refl; own = refl; allowed = record { between = record { from = omega arith; upto = omega arith }; absent = refl } },
                  tt,
                ),
              ),
            ),
          ),
        ),
      ),
    ) refl refl

bad_lines_differ : answer.BadLine NoOp ≡ answer.BadLine Json → ⊥
bad_lines_differ same = cc

kinds_differ : answer.NoEndpoint 0 ≡ answer.BadLine Json → ⊥
kinds_differ same = cc

pub returns-clause-another_fault : goal.returns-clause-another_fault
returns-clause-another_fault c = λ it. bad_lines_differ (it.faulty 0 Json (answer.BadLine NoOp) (record { there = refl }))

pub returns-clause-no_fault : goal.returns-clause-no_fault
returns-clause-no_fault c = λ it. kinds_differ (it.faulty 0 Json (answer.NoEndpoint 0) (record { there = refl }))
