-- What a step of a line writes.
use Rattle.std.specs.Prelude.{◌≡◌, List, ◌++◌, OnOk, Result}
use Rattle.json.specs.Token.{Token}
use Rattle.json.specs.Written.{Written}

-- the tokens are appended, and what the buffer held at the start stays
pub record Adds {E : Type 0} (r : Result (Unit {0}) E) (old new : Written) (ts : List Token) : Type 0 where
  pub tokens : OnOk r (new.tokens ≡ old.tokens ++ ts)
  pub before : OnOk r (new.before ≡ old.before)
