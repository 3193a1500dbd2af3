use Rattle.std.proofs.Common.{◌≤◌, length, List, arith, ap, subst}
use mathlib.Core.List.{IsPrefix}
use Rattle.pol_history.specs.declared.event.HistoryEvent.{HistoryEvent}
use Rattle.pol_history.proofs.Beginnings.{prefix_shorter}
use Rattle.pol_history_log.proofs.seen.Seen.begins.Goals as goal

pub returns-then-self-other : goal.returns-then-self-other
returns-then-self-other g c =
    let both = c.learn.new.self.log in
    let this : IsPrefix c.self.inside.reached.log both = subst (λ (l : List HistoryEvent). IsPrefix l both) (ap (λ s. s.log) c.again-both.ensures) c.learn.ensures.2 in
    let less : length c.self.inside.reached.log ≤ length c.other.inside.reached.log = omega (arith, c.self.invariant.0, c.other.invariant.0) in
    rw (← c.self.view_is, ← c.other.view_is) (prefix_shorter c.self.inside.reached.log c.other.inside.reached.log both this c.learn.ensures.3 less)
