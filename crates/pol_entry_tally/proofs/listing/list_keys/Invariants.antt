use Rattle.std.proofs.Common.{◌≡◌, ◌+◌, ◌++◌, take}
use Rattle.pol_entry_tally.specs.Affected.{changes_in}
use Rattle.pol_entry_tally.specs.Counts.{held}
use Rattle.pol_entry_tally.specs.Sizes.{clear_count, new_count}
use Rattle.pol_entry_tally.proofs.listing.list_keys.Given as goal

-- what differs at the keys so far, and the size that the map has by that
abbrev pub invariant-loop-local : goal.invariant-loop-local
invariant-loop-local l =
    (l.listing.changes.items ≡ l.initial.listing.changes.items ++ changes_in l.group (held l.old) (held l.new) (take l.local-index l.asked))
    × (l.listing.size + clear_count (changes_in l.group (held l.old) (held l.new) (take l.local-index l.asked))
    ≡ l.initial.listing.size + new_count (held l.old) (changes_in l.group (held l.old) (held l.new) (take l.local-index l.asked)))
