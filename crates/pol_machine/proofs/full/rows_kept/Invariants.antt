use Rattle.std.proofs.Common.{◌≡◌, ◌++◌, drop}
use Rattle.std.specs.List.{filter_map}
use Rattle.pol_machine.specs.Full.{row_kept}
use Rattle.pol_machine.specs.Rows.{by_name}
use Rattle.pol_machine.proofs.full.rows_kept.Given as goal

abbrev pub invariant-loop-endpoint : goal.invariant-loop-endpoint
invariant-loop-endpoint l =
    l.full.items ++ filter_map (λ e. row_kept e (by_name l.rows e.name)) (drop l.endpoint-index l.endpoints)
    ≡ filter_map (λ e. row_kept e (by_name l.rows e.name)) l.endpoints
