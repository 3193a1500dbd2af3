-- Which kind of number it is, and its place among those of its kind. No public clause cites this module.
use Rattle.std.specs.Prelude.{ℕ, ◌≡◌, ◌+◌, ◌<◌, ◌≤◌}
use Rattle.pol_ident.specs.declared.place.NumberPlace.{NumberPlace}
use Rattle.pol_ident.specs.declared.place.NumberPlace.TheVariants.{Reserved, Cluster, Local, Nowhere}
use Rattle.pol_model.specs.declared.limits.TheConstants.{CLUSTER_FIRST, CLUSTER_IDENTITIES, CLUSTER_LAST, LOCAL_FIRST, LOCAL_IDENTITIES, LOCAL_LAST, RESERVED_LAST}

abbrev pub IsPlaceOf : ℕ → NumberPlace → Type 0
IsPlaceOf number (Reserved place) = (number ≡ 1 + place) × (place < RESERVED_LAST)
IsPlaceOf number (Cluster place) = (number ≡ CLUSTER_FIRST + place) × (place < CLUSTER_IDENTITIES)
IsPlaceOf number (Local place) = (number ≡ LOCAL_FIRST + place) × (place < LOCAL_IDENTITIES)
IsPlaceOf number Nowhere =
    (1 ≤ number → number ≤ RESERVED_LAST → ⊥)
    × (CLUSTER_FIRST ≤ number → number ≤ CLUSTER_LAST → ⊥)
    × (LOCAL_FIRST ≤ number → number ≤ LOCAL_LAST → ⊥)
