-- The numbers of what a rule can be refused for ('profile').
use Rattle.std.specs.Prelude.{ℕ, ◌==◌, if◌then◌else◌, Option, Some, None}
use Rattle.pol_rule.specs.declared.cause.RuleCause.{RuleCause}
use Rattle.pol_rule.specs.declared.cause.RuleCause.TheVariants as rule

abbrev pub number_of : RuleCause → ℕ
number_of rule.NoSelector = 15
number_of rule.Combining = 16
number_of rule.BadSelector = 17
number_of rule.BadCidr = 18
number_of rule.ExceptOutside = 19
number_of rule.UnknownEntity = 20
number_of rule.BadPort = 21
number_of rule.BadProtocol = 22
number_of rule.TooManyPorts = 23
number_of rule.EmptyPorts = 24
number_of rule.BadPolicyType = 26
number_of rule.BadPeer = 27
number_of rule.BadEndPort = 28

-- the cause of a number, where one has it
abbrev pub cause_of : ℕ → Option RuleCause
cause_of number =
    if number == 15 then Some rule.NoSelector
    else (if number == 16 then Some rule.Combining
    else (if number == 17 then Some rule.BadSelector
    else (if number == 18 then Some rule.BadCidr
    else (if number == 19 then Some rule.ExceptOutside
    else (if number == 20 then Some rule.UnknownEntity
    else (if number == 21 then Some rule.BadPort
    else (if number == 22 then Some rule.BadProtocol
    else (if number == 23 then Some rule.TooManyPorts
    else (if number == 24 then Some rule.EmptyPorts
    else (if number == 26 then Some rule.BadPolicyType
    else (if number == 27 then Some rule.BadPeer
    else (if number == 28 then Some rule.BadEndPort
    else None))))))))))))
