use Rattle.std.proofs.Common.{◌≡◌, refl, arith}
use Rattle.pol_model.specs.declared.answer.Fault.TheVariants.{DuplicateEndpoint}
use Rattle.pol_model.specs.declared.options.Mode.TheVariants.{Always}
use Rattle.pol_model.specs.declared.request.Request.TheVariants.{SetMode}
use Rattle.pol_history.specs.ExampleEvents.{add_web, at_most, commit}
use Rattle.pol_history.specs.SmallHistories as history
use Rattle.pol_history.proofs.LegalEvents.{legal_follows}
use Rattle.pol_history.proofs.Small.{some_is_none}
use Rattle.pol_history.proofs.examples.commits.Goals as goal

pub returns : goal.returns
returns c = record {
  added_twice = λ legal.
      some_is_none DuplicateEndpoint (legal_follows (at_most 2) history.added_twice legal 1 (commit 0 1 add_web) refl).no_fault;
  skipped_number = λ legal.
      let next : 1 ≡ 0 = (legal_follows (at_most 2) history.skipped_number legal 0 (commit 0 1 add_web) refl).next in omega (arith, next);
  number_of_another = λ legal.
      let next : 1 ≡ 0 = (legal_follows (at_most 2) history.number_of_another legal 1 (commit 1 1 (SetMode Always)) refl).next in omega (arith, next);
}
