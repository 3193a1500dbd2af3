use Rattle.pol_selcache.proofs.TakenBack.{given_lives, taken_back}
use Rattle.pol_selcache.proofs.laws.a_reference_taken_back_leaves_the_selectors.Goals as goal

pub returns : goal.returns
returns c = record {
  lives = given_lives;
  back = taken_back;
}
