use Rattle.std.proofs.Common.{◌≡◌, length, take, rules, arith}
use Rattle.std.proofs.lemmas.Grind.{common_steps}
use Rattle.pol_streams.proofs.TakenBytes.{consumes_none, consumes_more, consumes_kept, consumes_all, consumes_over, took}
use Rattle.pol_streams.proofs.reading.read_all.Goals as goal

pub loop-bytes-init : goal.loop-bytes-init
loop-bytes-init g c = record {
  read = rw c.new-bytes.ensures.items (consumes_none (g.S.Source.left c.args.source.now));
  within = grind (arith, common_steps);
  room = grind (arith, common_steps);
  faults = search rules;
}

pub returns-in_err-count-clause-prefix : goal.returns-in_err-count-clause-prefix
returns-in_err-count-clause-prefix g c =
    took _ _ _ (consumes_kept _ _ _ _ c.loop-bytes.invariant.read c.in_err-count.ensures.kept)

pub returns-then-ended-clause-whole : goal.returns-then-ended-clause-whole
returns-then-ended-clause-whole g c =
    let at_end : c.in_ok-count.count ≡ 0 = search rules in
    let none : length (take c.in_ok-count.count c.read.new.into) ≡ 0 = rw at_end in
    consumes_all _ _ _ _ _ c.loop-bytes.invariant.read c.in_ok-count.ensures.moved none (c.in_ok-count.ensures.end at_end)

pub loop-bytes-preserved : goal.loop-bytes-preserved
loop-bytes-preserved g c = record {
  read = rw c.in_ok-append.ensures.ok (consumes_more _ _ _ _ _ c.loop-bytes.invariant.read c.in_ok-count.ensures.moved);
  within = grind (arith, common_steps);
  room = omega (arith, c.read.auto.into);
  faults = grind arith;
}

pub returns-in_err-append-clause-too_long : goal.returns-in_err-append-clause-too_long
returns-in_err-append-clause-too_long g c is =
    consumes_over _ _ _ _ (consumes_more _ _ _ _ _ c.loop-bytes.invariant.read c.in_ok-count.ensures.moved) (c.in_err-append.ensures.too_long (search rules))

pub returns-in_err-append-clause-prefix : goal.returns-in_err-append-clause-prefix
returns-in_err-append-clause-prefix g c =
    took _ _ _ (consumes_more _ _ _ _ _ c.loop-bytes.invariant.read c.in_ok-count.ensures.moved)

pub returns-then-ended-clause-prefix : goal.returns-then-ended-clause-prefix
returns-then-ended-clause-prefix g c =
    took _ _ _ (consumes_more _ _ _ _ _ c.loop-bytes.invariant.read c.in_ok-count.ensures.moved)
