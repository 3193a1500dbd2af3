use Rattle.pol_allocator.proofs.Preparing.{prepared_all}
use Rattle.pol_allocator.proofs.allocator.Allocator.plan_taken.Goals as goal

pub returns-then-is_new-clause-plan : goal.returns-then-is_new-clause-plan
returns-then-is_new-clause-plan g c = prepared_all c.args.self.now.rows c.args.revision c.plan.new.self.cache c.plan.result c.plan.ensures.plan

pub returns-else-is_new-clause-plan : goal.returns-else-is_new-clause-plan
returns-else-is_new-clause-plan g c = prepared_all c.args.self.now.rows c.args.revision c.plan-else-is_new.new.self.cache c.plan-else-is_new.result c.plan-else-is_new.ensures.plan
