-- What comes and what goes between two lists of entries.
use Rattle.std.specs.Prelude.{◌≡◌, ◌+◌, List}
use Rattle.pol_mapkey.specs.Entries.{Entry}
use Rattle.pol_mapkey.specs.declared.Kind.{Kind}
use Rattle.pol_mapkey.specs.declared.MapKey.{MapKey}
use Rattle.pol_entry_changes.specs.declared.staying.Moved.{Moved}
use Rattle.pol_entry_tally.specs.Times.{times}

-- the one list with what comes has each entry as often as the other with what goes
abbrev pub Leads : List Entry → List Entry → Moved → Type 0
Leads was is moved = (q : MapKey) (k : Kind) → times is q k + times moved.gone.items q k ≡ times was q k + times moved.come.items q k

-- the same of what came and went since
abbrev pub GoesOn : List Entry → List Entry → Moved → Moved → Type 0
GoesOn was is old new =
    (q : MapKey) (k : Kind) → times is q k + times new.gone.items q k + times old.come.items q k ≡ times was q k + times new.come.items q k + times old.gone.items q k

-- of the new entries some are gone through, and those of the second list are left
abbrev pub Between : List Entry → List Entry → List Entry → Moved → Moved → Type 0
Between was is left old new =
    (q : MapKey) (k : Kind) → times is q k + times new.gone.items q k + times old.come.items q k
    ≡ times left q k + times was q k + times new.come.items q k + times old.gone.items q k
