use Rattle.pol_taken.proofs.Listing.{filters_live}
use Rattle.pol_taken.proofs.laws.listed_peers_are_live.Goals as goal

pub returns : goal.returns
returns c = filters_live
