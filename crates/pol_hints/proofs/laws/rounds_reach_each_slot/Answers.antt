use Rattle.pol_hints.proofs.Below.{round_length, round_reaches}
use Rattle.pol_hints.proofs.laws.rounds_reach_each_slot.Goals as goal

pub returns-clause-each : goal.returns-clause-each
returns-clause-each c = round_reaches

pub returns-clause-no_more : goal.returns-clause-no_more
returns-clause-no_more c = round_length
