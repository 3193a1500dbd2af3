use Rattle.std.proofs.Common.{drop}
use Rattle.pol_allocator.specs.Sharing.{IsTableBut, is_gone}
use Rattle.pol_allocator.proofs.shared.remove_gone.Given as goal

-- the table may differ at those that are left and have no number
abbrev pub invariant-loop-prefix : goal.invariant-loop-prefix
invariant-loop-prefix l = IsTableBut (is_gone (drop l.prefix-index l.prefixes) l.identities) l.identities l.table
