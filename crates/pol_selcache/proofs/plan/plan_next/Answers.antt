use Rattle.std.proofs.Common.{ap, ◌∙◌, arith}
use Rattle.std.specs.Arc.{arc_value}
use Rattle.pol_selectors.specs.Inside.{live_of}
use Rattle.pol_selcache.specs.Plan.{change_to}
use Rattle.pol_selcache.proofs.Filed.{fewer, fewer_steps, moving_some, same_set}
use Rattle.pol_selcache.proofs.plan.plan_next.Goals as goal

pub plan_one-requires : goal.plan_one-requires
plan_one-requires g c =
    let rows = c.args.identities.now in
    record {
      moving = moving_some rows c.args.row.now.peer c.args.come.now.numbers.now c.args.gone.now.numbers.now c.in_ok-come.come c.in_ok-gone.gone (arc_value c.args.row.now.set) c.requires.moving
          (c.in_ok-come.ensures.few rows c.requires.come) (c.in_ok-gone.ensures.few rows c.requires.gone);
    }

pub returns-clause-change : goal.returns-clause-change
returns-clause-change g c =
    let rows = c.args.identities.now in
    c.in_ok-change.ensures.change
    ∙ ap (λ set. change_to set (live_of c.args.number c.args.row.now))
    (same_set rows c.args.row.now.peer c.args.gone.now.numbers.now c.in_ok-gone.gone c.requires.moving.rows_ascend (c.in_ok-gone.ensures.few rows c.requires.gone))

pub returns-clause-cost : goal.returns-clause-cost
returns-clause-cost g c =
    let rows = c.args.identities.now in
    let some = fewer rows c.args.row.now.peer c.args.come.now.numbers.now c.in_ok-come.come c.requires.moving.rows_ascend (c.in_ok-come.ensures.few rows c.requires.come) c.requires.moving.come_ascend in
    let less = fewer_steps c.args.row.now.peer _ _ some in
    omega (arith, c.plan_one.ensures.cost)

pub returns-in_err-change-clause-cost : goal.returns-in_err-change-clause-cost
returns-in_err-change-clause-cost g c =
    let rows = c.args.identities.now in
    let some = fewer rows c.args.row.now.peer c.args.come.now.numbers.now c.in_ok-come.come c.requires.moving.rows_ascend (c.in_ok-come.ensures.few rows c.requires.come) c.requires.moving.come_ascend in
    let less = fewer_steps c.args.row.now.peer _ _ some in
    omega (arith, c.plan_one.ensures.cost)
