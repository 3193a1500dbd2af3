use Rattle.std.proofs.Common.{◌≡◌, [], replicate}
use Rattle.pol_phases.proofs.cutting.no_commands.Given as goal

abbrev pub invariant-loop : goal.invariant-loop
invariant-loop l = l.lists.items ≡ replicate l.counter []
