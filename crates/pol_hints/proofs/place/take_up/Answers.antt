use Rattle.std.proofs.Common.{◌∙◌}
use Rattle.pol_hints.proofs.Steps.{may_take_up}
use Rattle.pol_hints.proofs.place.take_up.Goals as goal

pub pop_as-requires-clause-queue : goal.pop_as-requires-clause-queue
pop_as-requires-clause-queue g c =
    let same = c.loop.invariant.same in (same.0 ∙ c.requires.queue.0, same.2 ∙ c.requires.queue.1)

pub pop_as-requires-clause-rule : goal.pop_as-requires-clause-rule
pop_as-requires-clause-rule g c = may_take_up _ _ _ c.loop.invariant.known c.requires.part c.requires.rests
