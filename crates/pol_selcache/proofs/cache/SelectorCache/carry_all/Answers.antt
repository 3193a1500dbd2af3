use Rattle.std.proofs.Common.{length, ap, sym, subst, ◌∙◌, arith}
use Rattle.std.specs.Vec.Iter.{into_iter_items}
use Rattle.pol_selcache.specs.Cache.{IsSound}
use Rattle.pol_selcache.specs.Moving.{each_carried}
use Rattle.pol_selcache.specs.Planned.{planned_in}
use Rattle.pol_selcache.proofs.Carried.{MayCarry, all_gone, each_is_all, goes_on, plan_ascends, plan_may}
use Rattle.pol_selcache.proofs.cache.SelectorCache.carry_all.Goals as goal

pub loop-change-init : goal.loop-change-init
loop-change-init c =
    let sound = subst IsSound c.self.view_is c.self.invariant in
    let rest = c.into_iter-change-iterator.ensures.into_iter_gives.0 in (
      tt,
      tt,
      c.into_iter-change-iterator.ensures.into_iter_gives.1 ∙ c.args.changes.ok.0 ∙ ap length (sym rest),
      record {
        remains = ap (λ changes. each_carried c.args.revision (planned_in changes) c.args.self.now) rest;
        may = subst (λ changes. MayCarry c.args.revision (planned_in changes) c.args.self.now) (sym rest) (plan_may _ _ sound c.requires.fits);
        sound = sound;
      },
    )

pub loop-change-preserved : goal.loop-change-preserved
loop-change-preserved c =
    let going = c.loop-change.invariant in
    let steps = rw c.in-Some.is at c.next.ensures.steps in
    let counted = going.2 in
    let longer = ap length steps.0 in (
      tt,
      tt,
      omega (arith, steps.1, counted, longer),
      goes_on c.args.revision _ _ c.in-Some.change _ _ _ steps.0 c.carry_one-near.ensures.carried c.carry_one-near.ensures.sound going.3,
    )

pub returns-clause-carried : goal.returns-clause-carried
returns-clause-carried c =
    let going = c.loop-change.invariant in
    let sound = subst IsSound c.self.view_is c.self.invariant in
    let steps = rw c.in-None.is at c.next.ensures.steps in
    all_gone c.args.revision (into_iter_items c.loop-change.change-iterator) _ _ (sym going.2 ∙ steps.0) going.3
    ∙ each_is_all c.args.revision (planned_in c.args.changes.items) c.args.self.now (plan_ascends _ _ sound c.requires.fits)
