-- How the changes of a plan are seen. No public clause cites this module.
use Rattle.std.specs.Prelude.{List, map}
use Rattle.std.specs.Arc.{arc_value}
use Rattle.pol_selcache.specs.declared.plan.Planned.{Planned}
use Rattle.pol_selcache.specs.Plan.{Planned as Change}

abbrev pub planned_of : Planned → Change
planned_of p = record { selector = p.selector; gained = p.gained; lost = p.lost; set = arc_value p.set }

abbrev pub planned_in : List Planned → List Change
planned_in changes = map planned_of changes
