use Rattle.serde_json.specs.View.{view}
use Rattle.pol_json.specs.Document.{places_in}
use Rattle.pol_json.specs.Places.{first_found}
use Rattle.pol_json.proofs.Steps.{leads_policy}
use Rattle.pol_json.proofs.document.check_places.Goals as goal

pub returns : goal.returns
returns c =
    leads_policy (first_found (places_in c.args.kind (view c.args.value.now))) c.walk.result c.from_policy.result c.walk.ensures c.from_policy.ensures
