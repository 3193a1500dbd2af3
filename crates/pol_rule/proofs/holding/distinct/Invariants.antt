use Rattle.std.proofs.Common.{◌≡◌, drop}
use Rattle.pol_rule.specs.Prefixes.{distinct}
use Rattle.pol_rule.proofs.Distinct.{with_rest}
use Rattle.pol_rule.proofs.holding.distinct.Given as goal

abbrev pub invariant-loop-prefix : goal.invariant-loop-prefix
invariant-loop-prefix l = with_rest l.kept.keys (drop l.prefix-index l.prefixes) ≡ distinct l.prefixes
