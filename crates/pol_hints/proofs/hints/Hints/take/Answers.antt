use Rattle.std.proofs.Common.{◌∙◌}
use Rattle.crossbeam_queue.specs.Passes.{view}
use Rattle.pol_hints.proofs.Laying.{at_rest, front_is, laid_taken, of_queue}
use Rattle.pol_hints.proofs.hints.Hints.take.Goals as goal

pub invariant_of-pass : goal.invariant_of-pass
invariant_of-pass g c =
    let v = view c.pass.inside.pass in
    let w = view c.take_up-waiting.new.seat in
    let z = view c.lay_taken.new.seat in
    let x = c.take_up-waiting.result in
    let y = c.pop_front.new.self in
    let front = front_is x y c.in-Some.slot c.in-Some.ensures.value c.in-Some.ensures.items in
    at_rest v w z _ (laid_taken v w z x c.take_up-waiting.ensures.up c.in-Some.slot y front c.take_up-waiting.ensures.few c.lay_taken.ensures.laid) _
    (c.lay_taken.ensures.queue.2 ∙ c.take_up-waiting.ensures.queue.2 ∙ c.pass.invariant.bare) c.pass.invariant.part

pub returns-in-Some-clause-pass : goal.returns-in-Some-clause-pass
returns-in-Some-clause-pass g c =
    let v = view c.pass.inside.pass in
    let w = view c.take_up-waiting.new.seat in
    let z = view c.lay_taken.new.seat in
    let x = c.take_up-waiting.result in
    let y = c.pop_front.new.self in
    let front = front_is x y c.in-Some.slot c.in-Some.ensures.value c.in-Some.ensures.items in
    of_queue v w z _ (laid_taken v w z x c.take_up-waiting.ensures.up c.in-Some.slot y front c.take_up-waiting.ensures.few c.lay_taken.ensures.laid) _ _ _ _ _ _
    (c.lay_taken.ensures.queue.0 ∙ c.take_up-waiting.ensures.queue.0) c.pass.view_is c.self.view_is c.requires.pass c.pass.invariant.part
