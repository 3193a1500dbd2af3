-- Keys and entries of several identities that differ in the identity alone.
use Rattle.std.specs.Prelude.{ℕ, List, map}
use Rattle.pol_mapkey.specs.Entries.{Entry}
use Rattle.pol_mapkey.specs.declared.Kind.{Kind}
use Rattle.pol_mapkey.specs.declared.MapKey.{MapKey}

-- the key of another identity
abbrev pub with_id : ℕ → MapKey → MapKey
with_id id key = record { dir = key.dir; id = id; proto = key.proto; port = key.port; every_port = key.every_port }

-- an entry of that identity for each key
abbrev pub entries_for : Kind → List MapKey → ℕ → List Entry
entries_for kind keys id = map (λ key. (with_id id key, kind)) keys
