-- What a call answers, beside what is defined. Want of memory is always allowed.
use Rattle.std.specs.Prelude.{◌≡◌, Option, None, Some, Result, Ok, Err}
use Rattle.pol_rule.specs.declared.fault.RuleFault.{RuleFault}
use Rattle.pol_sanitize.specs.declared.fault.SanitizeError.{SanitizeError}
use Rattle.pol_sanitize.specs.declared.fault.SanitizeError.TheVariants.{Fault, Memory}

-- there is this fault, and none where the answer has a value
abbrev pub Finds : {Y : Type 0} → Option RuleFault → Result Y SanitizeError → Type 0
Finds fault (Ok value) = fault ≡ None
Finds fault (Err (Fault found)) = fault ≡ Some found
Finds fault (Err Memory) = Unit {0}

-- an error's fault is what is defined
abbrev pub Refuses : {Y : Type 0} → Result Y RuleFault → SanitizeError → Type 0
Refuses defined (Fault found) = defined ≡ Err found
Refuses defined Memory = Unit {0}
