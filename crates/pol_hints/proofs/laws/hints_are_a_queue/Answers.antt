use Rattle.std.proofs.Common.{[], append-nil, ◌∙◌}
use Rattle.pol_hints.specs.History.{waiting}
use Rattle.pol_hints.proofs.Histories.{put-append, taken-append, taken_first}
use Rattle.pol_hints.proofs.laws.hints_are_a_queue.Goals as goal

pub returns-clause-first : goal.returns-clause-first
returns-clause-first c history it = (waiting history, taken_first [] history it)

pub returns-clause-in_order : goal.returns-clause-in_order
returns-clause-in_order c history it = taken_first [] history it

pub returns-clause-put : goal.returns-clause-put
returns-clause-put c history slot = (put-append history _, taken-append history _ ∙ append-nil _)

pub returns-clause-taken : goal.returns-clause-taken
returns-clause-taken c history slot = (taken-append history _, put-append history _ ∙ append-nil _)
