-- When two policy keys are one.
use Rattle.std.specs.Prelude.{Bool, ◌&&◌}
use Rattle.std.specs.Bool.{beq}
use Rattle.std.specs.Str.{bytes_eq}
use Rattle.pol_rule.specs.declared.policy.PolicyKey.{PolicyKey}

-- kind, namespace and name are equal
abbrev pub same_key : PolicyKey → PolicyKey → Bool
same_key a b = beq a.cluster_wide b.cluster_wide && bytes_eq a.namespace b.namespace && bytes_eq a.name b.name
