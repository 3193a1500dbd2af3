use Rattle.std.proofs.Common.{◌≡◌, take}
use Rattle.pol_audit.specs.Kinds.{those_for}
use Rattle.pol_audit.proofs.kinds.those_for.Given as goal

abbrev pub invariant-loop-entry : goal.invariant-loop-entry
invariant-loop-entry l = l.those.items ≡ those_for l.proto (take l.entry-index l.entries)
