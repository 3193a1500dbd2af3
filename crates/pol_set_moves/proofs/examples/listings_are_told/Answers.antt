use Rattle.std.proofs.Common.{refl}
use Rattle.pol_set_moves.proofs.Worked.{listed_since, no_longer_listed, not_before}
use Rattle.pol_set_moves.proofs.examples.listings_are_told.Goals as goal

pub returns : goal.returns
returns c = record {
  by_two = refl;
  by_one = refl;
  another = refl;
  not_yet = refl;
  gone = refl;
  since = listed_since;
  not_since = not_before;
  no_longer = no_longer_listed;
}
