-- The law is a lemma.
use Rattle.pol_generated.proofs.ScriptRun.{maps_small}
use Rattle.pol_generated.proofs.laws.maps_are_small.Goals as goal

pub returns : goal.returns
returns c = maps_small
