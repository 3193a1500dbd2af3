use Rattle.std.proofs.Common.{◌<◌, ◌++◌, [], length, ap, sym, ◌∙◌, arith}
use Rattle.std.specs.List.{cons_option}
use Rattle.pol_selcache.specs.Live.{Live, rows_without}
use Rattle.pol_selcache.specs.Moving.{Moving}
use Rattle.pol_selcache.specs.Plan.{changes_for}
use Rattle.pol_selcache.specs.Planned.{planned_in}
use Rattle.pol_selcache.proofs.Untried.{cost_at_end, cost_tried, cost_tried_all, every_selected, none_yet, tried_so_far, known_trying}
use Rattle.pol_selcache.proofs.plan.plan_each.Goals as goal

pub loop-number-init : goal.loop-number-init
loop-number-init g c = (
  ap planned_in c.in_ok-changes.ensures.items ∙ sym (ap (changes_for (rows_without c.args.gone.now.numbers.now c.args.identities.now)) (none_yet c.args.table.now)),
  omega arith,
)

pub plan_next-requires : goal.plan_next-requires
plan_next-requires g c = record {
  come = c.requires.come;
  gone = c.requires.gone;
  moving = every_selected (λ (s : Live). Moving c.args.identities.now c.args.come.now.numbers.now c.args.gone.now.numbers.now s.peer s.set) _ c.args.table.now _ c.requires.moving c.row_near-next.ensures.row;
}

pub returns-in_err-change-clause-cost : goal.returns-in_err-change-clause-cost
returns-in_err-change-clause-cost g c =
    let within : c.loop-number.number-index < length c.args.tried.now = omega arith in
    let known = known_trying c.args.tried.now c.args.table.now c.loop-number.number-index _ within c.requires.ascend c.row_near-next.ensures.sound c.row_near-next.ensures.row in
    cost_tried_all _ _ _ _ _ known.1 _ _ _ _ c.loop-number.invariant.1 c.plan_next.ensures.cost

pub returns-in_err-push_some-clause-cost : goal.returns-in_err-push_some-clause-cost
returns-in_err-push_some-clause-cost g c =
    let within : c.loop-number.number-index < length c.args.tried.now = omega arith in
    let known = known_trying c.args.tried.now c.args.table.now c.loop-number.number-index _ within c.requires.ascend c.row_near-next.ensures.sound c.row_near-next.ensures.row in
    cost_tried_all _ _ _ _ _ known.1 _ _ _ _ c.loop-number.invariant.1 c.plan_next.ensures.cost

pub loop-number-preserved : goal.loop-number-preserved
loop-number-preserved g c =
    let within : c.loop-number.number-index < length c.args.tried.now = omega arith in
    let known = known_trying c.args.tried.now c.args.table.now c.loop-number.number-index _ within c.requires.ascend c.row_near-next.ensures.sound c.row_near-next.ensures.row in (
      c.in_ok-push_some.ensures.pushed
          ∙ (λ i. c.loop-number.invariant.0 i ++ cons_option (c.in_ok-change.ensures.change i) [])
          ∙ sym (tried_so_far _ _ _ _ _ known.1 (rows_without c.args.gone.now.numbers.now c.args.identities.now)),
      cost_tried _ _ _ _ _ known.1 _ _ _ _ c.loop-number.invariant.1 c.plan_next.ensures.cost,
    )

pub returns-clause-cost : goal.returns-clause-cost
returns-clause-cost g c = cost_at_end _ c.args.table.now _ _ _ c.loop-number.invariant.1
