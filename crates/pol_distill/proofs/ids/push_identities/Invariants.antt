use Rattle.std.proofs.Common.{◌≡◌, ◌++◌}
use Rattle.std.specs.List.{flat_map}
use Rattle.pol_distill.specs.RawKeys.{entries_for}
use Rattle.pol_distill.proofs.ids.push_identities.Given as goal

-- the entries so far, and those of the numbers that are left, are all
abbrev pub invariant-loop-id : goal.invariant-loop-id
invariant-loop-id l = l.out.items ++ flat_map (entries_for l.kind l.keys) l.id-iterator ≡ l.initial.out.items ++ flat_map (entries_for l.kind l.keys) l.ids
