use Rattle.std.proofs.Common.{◌≡◌, ◌≤◌, ℕ, List, length, refl, ap, arith}
use Rattle.history_examples.proofs.hints.passes_of_a_queue.Goals as goal

pub returns-clause-is : goal.returns-clause-is
returns-clause-is c = λ queue. record {
  queue = refl;
  part = record { part = omega arith; of = omega arith };
  legal = (tt, (refl, (tt, tt)));
  few = omega arith;
}

pub returns-clause-of_another : goal.returns-clause-of_another
returns-clause-of_another c = λ queue other apart it. apart it.queue

pub returns-clause-without_a_share : goal.returns-clause-without_a_share
returns-clause-without_a_share c = λ queue it. let wrong : 1 ≤ 0 = it.part.part in omega (arith, wrong)

pub returns-clause-share_of_nothing : goal.returns-clause-share_of_nothing
returns-clause-share_of_nothing c = λ queue it. let wrong : 1 ≤ 0 = it.part.of in omega (arith, wrong)

pub returns-clause-taken_though_none_waits : goal.returns-clause-taken_though_none_waits
returns-clause-taken_though_none_waits c = λ queue it.
    let wrong : 0 ≡ 1 = ap (λ (slots : List ℕ). length slots) it.legal.0 in omega (arith, wrong)

pub returns-clause-more_than_room : goal.returns-clause-more_than_room
returns-clause-more_than_room c = λ queue it. let wrong : 2 ≤ 1 = it.few in omega (arith, wrong)
