use Rattle.pol_history.proofs.Looks.{last_publish, publish_last}
use Rattle.pol_history.proofs.laws.published_maps_are_the_last.Goals as goal

pub returns : goal.returns
returns c = λ history endpoint revision. (last_publish history endpoint revision, publish_last history endpoint revision)
