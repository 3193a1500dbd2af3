use Rattle.std.proofs.Common.{◌≡◌, ◌≤◌, ◌+◌, ◌*◌, take, length}
use Rattle.pol_selcache.specs.Live.{label_selectors, rows_without}
use Rattle.pol_selcache.specs.Plan.{changes_for}
use Rattle.pol_selcache.specs.Planned.{planned_in}
use Rattle.pol_selcache.specs.Tried.{of_numbers}
use Rattle.pol_selcache.proofs.plan.plan_each.Given as goal

abbrev pub invariant-loop-number : goal.invariant-loop-number
invariant-loop-number g l =
    (planned_in l.changes.items ≡ changes_for (rows_without l.gone.numbers.now l.identities) (of_numbers (take l.number-index l.tried) l.table))
    × (l.steps ≤ l.initial.steps + label_selectors (of_numbers (take l.number-index l.tried) l.table) * length l.come.numbers.now)
