use Rattle.std.proofs.Common.{◌≡◌, map, take}
use Rattle.pol_netpol.specs.Translated.{entry_of}
use Rattle.pol_netpol.proofs.translation.each_entry.Given as goal

-- the entries so far are those of the front of the list
abbrev pub invariant-loop-entry : goal.invariant-loop-entry
invariant-loop-entry l = l.made.items ≡ map (entry_of l.own) (take l.entry-index l.entries)
