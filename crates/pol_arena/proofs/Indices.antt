-- Indices that count up, and go on from 2^32 - 1 with 0.
use Rattle.std.proofs.Common.{◌≡◌, ◌≢◌, ℕ, ◌+◌, ◌%◌, ◌^◌, ◌<◌, arith}
use Rattle.pol_arena.specs.Queue.{behind}

pub behind_below : (a p : ℕ) → behind a p < 2 ^ 32
behind_below a p = omega arith

pub behind-zero : (a : ℕ) → a < 2 ^ 32 → behind a 0 ≡ a
behind-zero a h = omega arith

pub behind-behind : (a p q r : ℕ) → a < 2 ^ 32 → p + q ≡ r → r < 2 ^ 32 → behind (behind a p) q ≡ behind a r
behind-behind a p q r h e k = omega arith

-- the index so many places behind is so many places behind
pub behind-place : (a p : ℕ) → a < 2 ^ 32 → p < 2 ^ 32 → behind a (behind a p) ≡ p
behind-place a p h k = omega arith

-- only an index itself is no place behind it
pub same_from_behind : (a b : ℕ) → a < 2 ^ 32 → b < 2 ^ 32 → behind a b ≡ 0 → a ≡ b
same_from_behind a b h k e = omega arith

pub apart_from_behind : (a b : ℕ) → a < 2 ^ 32 → 0 < behind a b → a ≢ b
apart_from_behind a b h w e = omega arith

-- another index is one place less behind the one before
pub behind_step : (a b : ℕ) → a < 2 ^ 32 → b < 2 ^ 32 → 0 < behind a b → behind (behind a 1) b + 1 ≡ behind a b
behind_step a b h k w = omega arith

-- the next index is the farthest behind, and this one is right behind it
pub behind-next : (a : ℕ) → a < 2 ^ 32 → behind a ((a + 1) % 2 ^ 32) + 1 ≡ 2 ^ 32
behind-next a h = omega arith

pub next-behind : (a : ℕ) → a < 2 ^ 32 → behind ((a + 1) % 2 ^ 32) 1 ≡ a
next-behind a h = omega arith

-- an index is the farthest behind the one before it
pub self-behind : (a : ℕ) → a < 2 ^ 32 → behind (behind a 1) a + 1 ≡ 2 ^ 32
self-behind a h = omega arith
