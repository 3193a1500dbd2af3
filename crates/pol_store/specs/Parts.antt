-- The parts of a store, and what is said of one of them alone.
use Rattle.std.specs.Prelude.{◌+◌}
use Rattle.pol_selcache.specs.Cache.{carried}
use Rattle.pol_selcache.specs.Plan.{Plan}
use Rattle.pol_allocator.specs.Held.{Held}
use Rattle.pol_store.specs.Store.{Stored}

-- the numbers that are held, and the selectors
abbrev pub numbers_of : Stored → Held
numbers_of stored = record { rows = stored.state.identities; cache = stored.cache }

-- the same with these
abbrev pub with_numbers : Held → Stored → Stored
with_numbers held stored = record stored { state = record stored.state { identities = held.rows }; cache = held.cache }

-- the revision is raised, and the plan is carried out
abbrev pub begun : Plan → Stored → Stored
begun plan stored = record stored { state = record stored.state { revision = stored.state.revision + 1 }; cache = carried plan stored.cache }
