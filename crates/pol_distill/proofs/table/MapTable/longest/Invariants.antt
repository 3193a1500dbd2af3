use Rattle.std.proofs.Common.{ℕ, ◌+◌, ◌<◌, ◌≤◌}
use Rattle.std.specs.List.{Contains}
use Rattle.pol_mapkey.specs.declared.Kind.{Kind}
use Rattle.pol_distill.proofs.Lookups.{key_at}
use Rattle.pol_distill.proofs.table.MapTable.longest.Given as goal

-- the table has none of the longer keys
abbrev pub invariant-loop-shorter : goal.invariant-loop-shorter
invariant-loop-shorter l =
    (m : ℕ) (kind : Kind) → m ≤ 16 → 16 < m + l.shorter → Contains l.self (key_at l.dir l.id l.proto l.port m, kind) → ⊥
