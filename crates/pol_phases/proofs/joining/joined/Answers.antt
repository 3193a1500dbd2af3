use Rattle.std.proofs.Common.{◌∙◌, drop, ap}
use Rattle.pol_run_laws.specs.Cut.{first_phase}
use Rattle.pol_phases.specs.Marks.{beside}
use Rattle.pol_phases.proofs.TwoParts.{joined_so}
use Rattle.pol_phases.proofs.joining.joined.Goals as goal

pub returns : goal.returns
returns c =
    let front = c.pop.new.self.items in let first = c.first_of-first.result.items in let one = c.from_vec.result in
    joined_so c.args.phases.items c.args.later.items front c.first_of-first.new.phases.items c.push.new.self.items c.push_all.new.phases.items c.in-Some.last first one
    c.in-Some.ensures.items
    (c.first_of-first.ensures.first ∙ ap (λ phases. first_phase phases) c.from_vec-behind.ensures.items)
    (c.first_of-first.ensures.rest ∙ ap (λ phases. drop 1 phases) c.from_vec-behind.ensures.items)
    (c.from_vec.ensures ∙ c.in_ok-one.ensures ∙ ap (λ lists. beside lists first) c.into_vec.ensures)
    c.in_ok-push.ensures.items c.in_ok-push_all.ensures
