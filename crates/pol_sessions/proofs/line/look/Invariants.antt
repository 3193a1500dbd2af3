use Rattle.std.proofs.Common.{[]}
use Rattle.pol_history.specs.Grows.{PassGrows}
use Rattle.pol_sessions.proofs.line.look.Given as goal

abbrev pub invariant-loop : goal.invariant-loop
invariant-loop g l = PassGrows g.N.NodeName.options l.initial.pass l.pass []
