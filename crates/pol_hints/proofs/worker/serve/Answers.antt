use Rattle.pol_hints.proofs.Serving.{serves_one, stops_at}
use Rattle.pol_hints.proofs.worker.serve.Goals as goal

pub returns-in-Ok-clause-serves : goal.returns-in-Ok-clause-serves
returns-in-Ok-clause-serves g c = serves_one _ c.args.pass.now c.take.new.pass c.take.ensures.share c.in-Some.slot c.in-Some.ensures.taken c.in-Ok.ensures

pub returns-in-Err-clause-stops : goal.returns-in-Err-clause-stops
returns-in-Err-clause-stops g c = stops_at _ c.args.pass.now c.take.new.pass c.take.ensures.share c.in-Some.slot c.in-Some.ensures.taken
