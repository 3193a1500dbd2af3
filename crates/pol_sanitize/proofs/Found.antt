-- The faults of steps that follow one another.
use Rattle.std.proofs.Common.{◌≡◌, Bool, true, false, ◌||◌, None, Result, subst}
use Rattle.pol_rule.specs.declared.cause.RuleCause.{RuleCause}
use Rattle.pol_sanitize.specs.Answers.{Finds}
use Rattle.pol_sanitize.specs.Faults.{found, located}
use Rattle.pol_sanitize.specs.declared.fault.Location.{Location}
use Rattle.pol_sanitize.specs.declared.fault.SanitizeError.{SanitizeError}

-- what holds after a step that found nothing is all that holds
pub found_after : {Y : Type 0} (location : Location) (cause : RuleCause) (before wrong wrong' : Bool) (r : Result Y SanitizeError)
    → located location (found cause before) ≡ None → wrong ≡ wrong'
    → Finds (located location (found cause wrong)) r → Finds (located location (found cause (before || wrong'))) r
found_after location cause true wrong wrong' r none same finds = cc
found_after location cause false wrong wrong' r none same finds = subst (λ (b : Bool). Finds (located location (found cause b)) r) same finds
