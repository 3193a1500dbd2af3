use Rattle.std.proofs.Common.{drop}
use Rattle.pol_prefixes.specs.AddressTable.{TellIdentities}
use Rattle.pol_prefixes.proofs.addresses.identities_of.Given as goal

-- the identities of the endpoints gone through, from the last one on
abbrev pub invariant-loop-i : goal.invariant-loop-i
invariant-loop-i l = TellIdentities l.index.entries (drop l.i l.endpoints)
