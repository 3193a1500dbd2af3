-- An error that is want of memory isn't another one.
use Rattle.std.proofs.Common.{◌≡◌, ℕ, Result, Ok, Err}
use Rattle.std.specs.Prelude.{IsErrAnd, IsErrOf}
use Rattle.pol_ident.specs.declared.error.IdentError.{IdentError}
use Rattle.pol_ident.specs.declared.error.IdentError.TheVariants.{Exhausted, Memory}

pub memory_only : (result : Result ℕ IdentError) → IsErrAnd result (λ error. error ≡ Memory) → IsErrOf result Exhausted → ⊥
memory_only (Ok number) memory exhausted = cc
memory_only (Err error) memory exhausted = cc
