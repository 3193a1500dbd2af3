use Rattle.std.proofs.Common.{◌≡◌, ◌<◌, length, rules, arith}
use Rattle.std.proofs.lemmas.Grind.{common_steps}
use Rattle.pol_streams.specs.Bytes.{AppendsPart}
use Rattle.pol_streams.proofs.SentBytes.{sent_start, sent_more, sent_part, sent_all}
use Rattle.pol_streams.proofs.writing.write_all.Goals as goal

pub loop-rest-init : goal.loop-rest-init
loop-rest-init g c = record {
  sent = sent_start (g.K.Sink.written c.args.sink.now) c.args.bytes.now;
  faults = search rules;
}

pub returns-in_err-count-clause-part : goal.returns-in_err-count-clause-part
returns-in_err-count-clause-part g c =
    let some : 0 < length c.loop-rest.rest.now = grind (arith, common_steps) in
    let part : AppendsPart (g.K.Sink.written c.args.sink.now) (g.K.Sink.written c.write.new.self) c.args.bytes.now =
    sent_part _ _ _ _ _ c.loop-rest.invariant.sent c.in_err-count.ensures.kept some in
    search rules

pub loop-rest-preserved : goal.loop-rest-preserved
loop-rest-preserved g c = record {
  sent = sent_more _ _ _ _ _ _ c.in_ok-count.count c.loop-rest.invariant.sent c.in_ok-count.ensures.appended (grind (arith, common_steps));
  faults = grind arith;
}

pub returns-clause-written : goal.returns-clause-written
returns-clause-written g c =
    let none : length c.loop-rest.rest.now ≡ 0 = grind (arith, common_steps) in
    sent_all _ _ _ _ c.loop-rest.invariant.sent none
