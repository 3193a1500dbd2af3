use Rattle.std.proofs.Common.{drop}
use Rattle.pol_allocator.specs.Sharing.{IsTableBut, is_of}
use Rattle.pol_allocator.proofs.shared.renew_each.Given as goal

-- the table may differ at those that are left
abbrev pub invariant-loop-prefix : goal.invariant-loop-prefix
invariant-loop-prefix l = IsTableBut (is_of (drop l.prefix-index l.prefixes)) l.identities l.table
