-- What a `Pool` ends as, where a `&mut` to one of its values is returned.
use Rattle.std.specs.Prelude.{ℕ}
use Rattle.std.specs.Borrow.{Lends, Fml, RattleType, MutBor}
use Rattle.pol_arena.specs.Pool.{Pool, with_value}
use Rattle.pol_arena.specs.contracts.pool.Pool.{the_row}

-- once the borrow r ends, the node has the last value written through r
abbrev pub lends_value : (T : RattleType) → MutBor (Pool T.Denot) → ℕ → MutBor T.Denot → Fml
lends_value T p node r = Lends (the_row T) T p r (with_value p.now node)
