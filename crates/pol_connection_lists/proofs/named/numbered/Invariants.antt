use Rattle.std.proofs.Common.{◌≡◌, ◌++◌}
use Rattle.pol_connection_lists.specs.Names.{identities_by}
use Rattle.pol_connection_lists.proofs.named.numbered.Given as goal

-- the identities so far, and those of the names that are left, are all
abbrev pub invariant-loop-name : goal.invariant-loop-name
invariant-loop-name l = l.named.items ++ identities_by l.identities l.name-iterator ≡ identities_by l.identities l.held.entries
