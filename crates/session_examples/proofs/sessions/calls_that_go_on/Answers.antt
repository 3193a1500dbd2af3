use Rattle.std.proofs.Common.{◌≡◌, List, [], length, refl, ap, arith}
use Rattle.pol_model.specs.declared.request.Request.{Request}
use Rattle.pol_run.specs.ExampleLines.{unlimited}
use Rattle.pol_history.proofs.LegalEvents.{each_legal}
use Rattle.session_examples.specs.Stopped.{added}
use Rattle.session_examples.proofs.sessions.calls_that_go_on.Goals as goal

pub returns-clause-commits : goal.returns-clause-commits
returns-clause-commits c = record {
  allowed = (1, record { place = 0; number = 0; there = refl; past = omega arith; revision = refl; identity = refl; slots = refl });
  grows = record {
    number = refl;
    grows = record { goes_on = (added, refl); legal = each_legal unlimited added (record { no_fault = refl; next = refl }, tt); mine = refl };
  };
}

pub returns-clause-asks : goal.returns-clause-asks
returns-clause-asks c = record {
  allowed = refl;
  grows = record { number = refl; grows = record { goes_on = ([], refl); legal = each_legal unlimited [] tt; mine = refl } };
}

pub returns-clause-not_allowed : goal.returns-clause-not_allowed
returns-clause-not_allowed c = λ it. it.allowed

pub returns-clause-of_another_pass : goal.returns-clause-of_another_pass
returns-clause-of_another_pass c = λ it. let wrong : 2 ≡ 1 = it.grows.number in omega (arith, wrong)

pub returns-clause-commits_unasked : goal.returns-clause-commits_unasked
returns-clause-commits_unasked c = λ it.
    let wrong : 1 ≡ 0 = ap (λ (requests : List Request). length requests) it.grows.grows.mine in omega (arith, wrong)
