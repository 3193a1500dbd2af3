-- What specifications say of directions.
use Rattle.std.specs.Prelude.{Bool, true, false}
use Rattle.std.specs.declared.cmp.Ordering.{Ordering}
use Rattle.std.specs.declared.cmp.Ordering.TheVariants.{Less, Equal, Greater}
use Rattle.pol_ports.specs.declared.Direction.{Direction}
use Rattle.pol_ports.specs.declared.Direction.TheVariants.{Ingress, Egress}

-- whether two directions are the same
abbrev pub same_direction : Direction → Direction → Bool
same_direction Ingress Ingress = true
same_direction Ingress Egress = false
same_direction Egress Ingress = false
same_direction Egress Egress = true

-- their order: ingress comes first
abbrev pub direction_cmp : Direction → Direction → Ordering
direction_cmp Ingress Ingress = Equal
direction_cmp Ingress Egress = Less
direction_cmp Egress Ingress = Greater
direction_cmp Egress Egress = Equal
