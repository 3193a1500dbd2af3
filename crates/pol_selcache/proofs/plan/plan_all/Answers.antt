use Rattle.std.proofs.Common.{List, length, ap, sym, subst, ◌∙◌, ℕ, ◌*◌, arith}
use Rattle.std.specs.List.{AllByRecursion}
use Rattle.pol_selcache.specs.Live.{Live, label_selectors, rows_without}
use Rattle.pol_selcache.specs.Moving.{Moving}
use Rattle.pol_selcache.specs.Plan.{changes_for}
use Rattle.pol_selcache.specs.Tried.{of_numbers}
use Rattle.pol_selcache.proofs.Untried.{tried_change}
use Rattle.pol_selcache.proofs.plan.plan_all.Goals as goal

pub plan_each-requires-clause-moving : goal.plan_each-requires-clause-moving
plan_each-requires-clause-moving g c =
    let rows = c.args.identities.now in
    subst (λ (come : List ℕ). AllByRecursion (λ (s : Live). Moving rows come c.in_ok-gone.gone.numbers.now s.peer s.set) c.args.table.now) (sym c.in_ok-come.ensures.numbers)
    (subst (λ (gone : List ℕ). AllByRecursion (λ (s : Live). Moving rows c.args.come.now gone s.peer s.set) c.args.table.now) (sym c.in_ok-gone.ensures.numbers) c.requires.moving)

pub returns-clause-changes : goal.returns-clause-changes
returns-clause-changes g c =
    let rows = c.args.identities.now in
    let come = c.args.come.now in
    let gone = c.args.gone.now in
    c.in_ok-changes.ensures.changes
    ∙ ap (λ (others : List ℕ). changes_for (rows_without others rows) (of_numbers c.as_slice-numbers.result.now c.args.table.now)) c.in_ok-gone.ensures.numbers
    ∙ ap (λ ns. changes_for (rows_without gone rows) (of_numbers ns c.args.table.now)) c.as_slice-numbers.ensures.value
    ∙ tried_change rows come gone c.in_ok-numbers.numbers.items c.in_ok-headings.headings c.in_ok-headings.ensures.come c.in_ok-headings.ensures.gone c.args.table.now c.requires.moving c.in_ok-numbers.ensures.all

pub returns-clause-cost : goal.returns-clause-cost
returns-clause-cost g c =
    let same = ap (λ (ns : List ℕ). label_selectors c.args.table.now * length ns) c.in_ok-come.ensures.numbers in
    omega (arith, c.plan_each.ensures.cost)
