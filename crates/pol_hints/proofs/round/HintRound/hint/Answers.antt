use Rattle.pol_hints.proofs.Below.{round_below}
use Rattle.pol_hints.proofs.round.HintRound.hint.Goals as goal

pub returns-in-Some-clause-hints : goal.returns-in-Some-clause-hints
returns-in-Some-clause-hints g c = round_below _ _ _ _ c.put_round.ensures.put

pub returns-in_default-clause-hints : goal.returns-in_default-clause-hints
returns-in_default-clause-hints g c = round_below _ _ _ _ c.put_round.ensures.put
