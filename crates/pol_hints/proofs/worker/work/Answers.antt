use Rattle.pol_hints.proofs.Serving.{serves_both, serves_on, stops_behind, stops_on}
use Rattle.pol_hints.proofs.worker.work.Goals as goal

pub returns-in-Err-clause-stops : goal.returns-in-Err-clause-stops
returns-in-Err-clause-stops g c = stops_behind (g.J.Job.has_run c.args.job.now) c.args.pass.now c.loop.pass c.serve.new.pass c.loop.invariant.serves c.in-Err.ensures.stops

pub returns-in-Err-clause-seen : goal.returns-in-Err-clause-seen
returns-in-Err-clause-seen g c = (stops_on _ _ _ (stops_behind (g.J.Job.has_run c.args.job.now) c.args.pass.now c.loop.pass c.serve.new.pass c.loop.invariant.serves c.in-Err.ensures.stops)).0

pub returns-in-Err-clause-share : goal.returns-in-Err-clause-share
returns-in-Err-clause-share g c = (stops_on _ _ _ (stops_behind (g.J.Job.has_run c.args.job.now) c.args.pass.now c.loop.pass c.serve.new.pass c.loop.invariant.serves c.in-Err.ensures.stops)).1

pub returns-in-Err-clause-puts_none : goal.returns-in-Err-clause-puts_none
returns-in-Err-clause-puts_none g c = (stops_on _ _ _ (stops_behind (g.J.Job.has_run c.args.job.now) c.args.pass.now c.loop.pass c.serve.new.pass c.loop.invariant.serves c.in-Err.ensures.stops)).2

pub loop-preserved-in-Ok-true : goal.loop-preserved-in-Ok-true
loop-preserved-in-Ok-true g c = record {
  queue = c.serve.ensures.pass.queue;
  serves = serves_both (g.J.Job.has_run c.args.job.now) c.args.pass.now c.loop.pass c.serve.new.pass c.loop.invariant.serves c.in-Ok-true.ensures.serves;
}

pub returns-in-Ok-false-clause-serves : goal.returns-in-Ok-false-clause-serves
returns-in-Ok-false-clause-serves g c = serves_both (g.J.Job.has_run c.args.job.now) c.args.pass.now c.loop.pass c.serve.new.pass c.loop.invariant.serves c.in-Ok-false.ensures.serves

pub returns-in-Ok-false-clause-seen : goal.returns-in-Ok-false-clause-seen
returns-in-Ok-false-clause-seen g c = (serves_on _ _ _ (serves_both (g.J.Job.has_run c.args.job.now) c.args.pass.now c.loop.pass c.serve.new.pass c.loop.invariant.serves c.in-Ok-false.ensures.serves)).0

pub returns-in-Ok-false-clause-share : goal.returns-in-Ok-false-clause-share
returns-in-Ok-false-clause-share g c = (serves_on _ _ _ (serves_both (g.J.Job.has_run c.args.job.now) c.args.pass.now c.loop.pass c.serve.new.pass c.loop.invariant.serves c.in-Ok-false.ensures.serves)).1

pub returns-in-Ok-false-clause-puts_none : goal.returns-in-Ok-false-clause-puts_none
returns-in-Ok-false-clause-puts_none g c = (serves_on _ _ _ (serves_both (g.J.Job.has_run c.args.job.now) c.args.pass.now c.loop.pass c.serve.new.pass c.loop.invariant.serves c.in-Ok-false.ensures.serves)).2

pub loop-preserved : goal.loop-preserved
loop-preserved g c = record {
  queue = c.serve.ensures.pass.queue;
  serves = serves_both (g.J.Job.has_run c.args.job.now) c.args.pass.now c.loop.pass c.serve.new.pass c.loop.invariant.serves c.in-Ok-false.ensures.serves;
}
