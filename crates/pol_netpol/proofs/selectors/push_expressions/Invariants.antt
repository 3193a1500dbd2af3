use Rattle.std.proofs.Common.{◌≡◌, ◌++◌, drop, filter_map}
use Rattle.pol_netpol.specs.Translated.{expression_requirement}
use Rattle.pol_netpol.proofs.selectors.push_expressions.Given as goal

abbrev pub invariant-loop-expression : goal.invariant-loop-expression
invariant-loop-expression l = record {
  asked : l.asked.items ++ filter_map (expression_requirement l.front) (drop l.expression-index l.expressions) ≡ l.initial.asked.items ++ filter_map (expression_requirement l.front) l.expressions;
}
