use Rattle.std.proofs.Common.{◌≡◌, ◌++◌, List, drop}
use Rattle.pol_connection_maps.specs.Lists.{kept_ends}
use Rattle.pol_connection_maps.specs.Named.{AreFirsts}
use Rattle.pol_connection_maps.specs.Seen.{Seen}
use Rattle.pol_connection_maps.proofs.kept.kept_among.Given as goal

abbrev pub invariant-loop-end : goal.invariant-loop-end
invariant-loop-end l =
    (before : List Seen) → AreFirsts (λ (end : Seen). end.name) before l.firsts → l.kept.items ++ kept_ends l.halves before (drop l.end-index l.after) ≡ kept_ends l.halves before l.after
