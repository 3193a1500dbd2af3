use Rattle.pol_filters.proofs.Located.{named}
use Rattle.pol_filters.proofs.laws.places_and_stamps_name_filters.Goals as goal

pub returns : goal.returns
returns c = named
