-- What a `Pool` keeps besides what a contract sees. No public clause cites this module.
use Rattle.std.specs.Prelude.{ℕ, ◌+◌, ◌≤◌}
use Rattle.pol_arena.specs.Pool.{Pool, IsSound, nodes_in_use}

-- the pool is sound, and its slots have room for the nodes in use and the spare ones
pub record IsKept {T : Type 0} (p : Pool T) (capacity : ℕ) : Type 0 where
  pub sound : IsSound p
  pub room : nodes_in_use p + p.spare ≤ capacity
