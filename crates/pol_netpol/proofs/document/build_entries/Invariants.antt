use Rattle.std.proofs.Common.{◌≡◌, map, take}
use Rattle.serde_json.specs.View.{view}
use Rattle.pol_netpol.specs.Document.{raw_entry_of}
use Rattle.pol_netpol.proofs.document.build_entries.Given as goal

-- the entries so far are those of the front of the list
abbrev pub invariant-loop-value : goal.invariant-loop-value
invariant-loop-value l = l.entries.items ≡ map (raw_entry_of l.dir) (map view (take l.value-index l.values))
