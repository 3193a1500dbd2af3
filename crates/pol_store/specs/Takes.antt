-- What is taken of a store for an endpoint's labels. No public clause cites this module.
use Rattle.std.specs.Prelude.{◌≡◌, Bool, List}
use Rattle.std.specs.Arc.{arc_value}
use Rattle.pol_labels.specs.declared.label.Label.{Label}
use Rattle.pol_filters.specs.Resolved.{filters_for}
use Rattle.pol_taken.specs.PeerRows.{AreSetsFor}
use Rattle.pol_store.specs.declared.take.Parts.{Parts}
use Rattle.pol_store.specs.Store.{Stored}

-- the filters are those of the labels, and the sets are those of the peers that they list
pub record ArePartsFor (stored : Stored) (labels : List Label) (localhost : Bool) (parts : Parts) : Type 0 where
  pub filters : arc_value parts.filters ≡ filters_for stored.state.policies labels stored.state.mode localhost
  pub sets : AreSetsFor stored.cache.live (arc_value parts.filters) parts.sets
