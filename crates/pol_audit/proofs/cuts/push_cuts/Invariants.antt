use Rattle.std.proofs.Common.{◌≡◌, ◌++◌, take}
use Rattle.std.specs.List.{flat_map}
use Rattle.pol_audit.specs.Cuts.{cuts_at}
use Rattle.pol_audit.proofs.cuts.push_cuts.Given as goal

abbrev pub invariant-loop-entry : goal.invariant-loop-entry
invariant-loop-entry l = l.cuts.items ≡ l.initial.cuts.items ++ flat_map (cuts_at l.proto) (take l.entry-index l.entries)
