-- What a call that failed on the way did to the bytes of a source or a sink. What one did that succeeded
-- is said by std's words `Consumes`, `IsAtEnd` and `Appends`.
use Rattle.std.specs.Prelude.{ℕ, ◌<◌, List, Option, length, take}
use Rattle.std.specs.Io.KnownBytes.{Appends, Consumes}

-- known bytes lose some from their front, or none
pub record ConsumesSome (old new : Option (List ℕ)) : Type 0 where
  pub taken : List ℕ
  pub consumed : Consumes old new taken

-- known bytes grow by the first of these bytes, or none, and not by all of them
pub record AppendsPart (old new : Option (List ℕ)) (bytes : List ℕ) : Type 0 where
  pub count : ℕ
  pub not_all : count < length bytes
  pub appended : Appends old new (take count bytes)
