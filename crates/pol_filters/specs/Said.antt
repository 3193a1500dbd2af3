-- What policies say of a direction, as it is gathered.
use Rattle.std.specs.Prelude.{◌≡◌, List}
use Rattle.std.specs.List.{list_any}
use Rattle.pol_labels.specs.declared.label.Label.{Label}
use Rattle.pol_ports.specs.declared.Direction.{Direction}
use Rattle.pol_model.specs.declared.row.Stamped.{Stamped}
use Rattle.pol_filters.specs.Resolved.{filters_in, policy_says}
use Rattle.pol_filters.specs.declared.select.Said.{Said}

-- the filters are those of the policies, and some rule says something of the direction where one of theirs does
pub record IsSaid (policies : List Stamped) (labels : List Label) (dir : Direction) (said : Said) : Type 0 where
  pub filters : said.filters.items ≡ filters_in policies labels dir
  pub some : said.some ≡ list_any (policy_says labels dir) policies
