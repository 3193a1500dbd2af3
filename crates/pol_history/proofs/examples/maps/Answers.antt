use Rattle.std.proofs.Common.{[], ◌∷◌, refl, arith}
use Rattle.std.proofs.lemmas.Bool.{false≢true}
use Rattle.pol_history.specs.ExampleEvents.{all_in, all_out, at_most, blocked, open_map, publish}
use Rattle.pol_history.specs.SmallHistories as history
use Rattle.pol_history.proofs.LegalEvents.{legal_follows}
use Rattle.pol_history.proofs.Small.{some_same, two_are_one}
use Rattle.pol_history.proofs.examples.maps.Goals as goal

pub returns : goal.returns
returns c = record {
  of_two_revisions = λ legal.
      two_are_one all_in all_out all_in (legal_follows (at_most 2) history.map_of_two_revisions legal 2 (publish 1 1 (all_in ∷ [])) refl).canonical;
  above_the_limit = λ legal. false≢true (legal_follows (at_most 1) history.map_above_the_limit legal 1 (publish 1 1 open_map) refl).fits;
  other_count = λ legal.
      let no = some_same 2 3 (legal_follows (at_most 1) history.other_count legal 1 (blocked 1 1 3) refl).size in omega (arith, no);
  blocked_that_fits = λ legal. false≢true (legal_follows (at_most 2) history.blocked_that_fits legal 1 (blocked 1 1 2) refl).too_many;
}
