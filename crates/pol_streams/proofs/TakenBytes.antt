-- What several reads in a row did to the known bytes of a source.
use Rattle.std.proofs.Common.{◌≡◌, ◌<◌, ℕ, List, [], ◌++◌, length, Option, Some, None, IfSome, arith, refl}
use Rattle.std.proofs.lemmas.Grind.{common_steps}
use Rattle.std.specs.Io.KnownBytes.{Consumes, IsAtEnd, Keeps}
use Rattle.pol_streams.specs.Bytes.{ConsumesSome}

-- no read took anything
pub consumes_none : (a : Option (List ℕ)) → Consumes a a []
consumes_none None = tt
consumes_none (Some xs) = refl

-- one more read
pub consumes_more : (a b c : Option (List ℕ)) (xs ys : List ℕ) → Consumes a b xs → Consumes b c ys → Consumes a c (xs ++ ys)
consumes_more None b c xs ys before now = tt
consumes_more (Some p) None c xs ys before now = absurd before
consumes_more (Some p) (Some q) None xs ys before now = absurd now
consumes_more (Some p) (Some q) (Some r) xs ys before now = grind (arith, common_steps)

-- a read that failed
pub consumes_kept : (a b c : Option (List ℕ)) (xs : List ℕ) → Consumes a b xs → Keeps b c → Consumes a c xs
consumes_kept None b c xs before kept = tt
consumes_kept (Some p) None c xs before kept = absurd before
consumes_kept (Some p) (Some q) None xs before kept = absurd kept
consumes_kept (Some p) (Some q) (Some r) xs before kept = grind (arith, common_steps)

-- what was read before a read of nothing at the end is all that was left
pub consumes_all : (a b c : Option (List ℕ)) (xs ys : List ℕ) → Consumes a b xs → Consumes b c ys → length ys ≡ 0 → IsAtEnd c → IfSome a (λ left. xs ≡ left)
consumes_all None b c xs ys before now none end = tt
consumes_all (Some p) None c xs ys before now none end = absurd before
consumes_all (Some p) (Some q) None xs ys before now none end = absurd now
consumes_all (Some p) (Some q) (Some r) xs ys before now none end = grind (arith, common_steps)

-- what was read is no longer than what was left
pub consumes_over : (a b : Option (List ℕ)) (xs : List ℕ) (limit : ℕ) → Consumes a b xs → limit < length xs → IfSome a (λ left. limit < length left)
consumes_over None b xs limit before over = tt
consumes_over (Some p) None xs limit before over = absurd before
consumes_over (Some p) (Some q) xs limit before over = grind (arith, common_steps)

-- these bytes were taken
pub took : (a b : Option (List ℕ)) (xs : List ℕ) → Consumes a b xs → ConsumesSome a b
took a b xs before = record { taken = xs; consumed = before }
