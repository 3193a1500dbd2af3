use Rattle.std.proofs.Common.{true, false, sym, ◌∙◌}
use Rattle.pol_allocator.proofs.Going.{numbers_may_go}
use Rattle.pol_allocator.proofs.Preparing.{prepared_released}
use Rattle.pol_allocator.proofs.allocator.Allocator.plan_release.Goals as goal

pub plan-requires : goal.plan-requires
plan-requires g c = record {
  may = numbers_may_go c.args.number c.args.self.now.rows c.is_last.ensures.sound c.args.revision c.args.self.now.cache true c.requires.held c.requires.settled.newer c.requires.settled.exact;
}

pub plan-requires-else-is_last : goal.plan-requires-else-is_last
plan-requires-else-is_last g c = record {
  may = numbers_may_go c.args.number c.args.self.now.rows c.is_last.ensures.sound c.args.revision c.args.self.now.cache false c.requires.held c.requires.settled.newer c.requires.settled.exact;
}

pub returns-then-is_last-clause-plan : goal.returns-then-is_last-clause-plan
returns-then-is_last-clause-plan g c =
    prepared_released c.args.number c.args.self.now.rows c.is_last.ensures.sound true (sym c.if-is_last.true ∙ c.is_last.ensures.last) c.args.revision c.plan.new.self.cache c.plan.result c.plan.ensures.plan

pub returns-else-is_last-clause-plan : goal.returns-else-is_last-clause-plan
returns-else-is_last-clause-plan g c =
    prepared_released c.args.number c.args.self.now.rows c.is_last.ensures.sound false (sym c.if-is_last.false ∙ c.is_last.ensures.last) c.args.revision c.plan-else-is_last.new.self.cache c.plan-else-is_last.result c.plan-else-is_last.ensures.plan
