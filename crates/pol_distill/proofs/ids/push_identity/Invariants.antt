use Rattle.std.proofs.Common.{◌≡◌, ◌++◌, take}
use Rattle.pol_distill.specs.RawKeys.{entries_for}
use Rattle.pol_distill.proofs.ids.push_identity.Given as goal

abbrev pub invariant-loop-key : goal.invariant-loop-key
invariant-loop-key l = l.out.items ≡ l.initial.out.items ++ entries_for l.kind (take l.key-index l.keys) l.id
