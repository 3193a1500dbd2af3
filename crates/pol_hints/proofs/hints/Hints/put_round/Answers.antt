use Rattle.std.proofs.Common.{◌∙◌, arith}
use Rattle.crossbeam_queue.specs.Passes.{view}
use Rattle.pol_hints.proofs.Laying.{at_rest, laid_puts, of_queue, round_put}
use Rattle.pol_hints.proofs.hints.Hints.put_round.Goals as goal

pub invariant_of-pass : goal.invariant_of-pass
invariant_of-pass g c =
    let v = view c.pass.inside.pass in
    let w = view c.take_up-waiting.new.seat in
    let z = view c.lay_put.new.seat in
    let x = c.take_up-waiting.result in
    let y = c.put_all-refused.new.waiting in
    let some = c.put_all-refused.ensures.put in
    let up = c.take_up-waiting.ensures.up in
    let len = c.len.ensures.len in
    let most = c.len.ensures.within.0 in
    let it = laid_puts v w z x up some.put y some.items some.capacity (omega (arith, len, most)) c.lay_put.ensures.laid in
    at_rest v w z _ it _ (c.lay_put.ensures.queue.2 ∙ c.take_up-waiting.ensures.queue.2 ∙ c.pass.invariant.bare) c.pass.invariant.part

pub returns-clause-pass : goal.returns-clause-pass
returns-clause-pass g c =
    let v = view c.pass.inside.pass in
    let w = view c.take_up-waiting.new.seat in
    let z = view c.lay_put.new.seat in
    let x = c.take_up-waiting.result in
    let y = c.put_all-refused.new.waiting in
    let some = c.put_all-refused.ensures.put in
    let up = c.take_up-waiting.ensures.up in
    let len = c.len.ensures.len in
    let most = c.len.ensures.within.0 in
    let it = laid_puts v w z x up some.put y some.items some.capacity (omega (arith, len, most)) c.lay_put.ensures.laid in
    of_queue v w z _ it _ _ _ _ _ _ (c.lay_put.ensures.queue.0 ∙ c.take_up-waiting.ensures.queue.0) c.pass.view_is c.self.view_is c.requires.pass c.pass.invariant.part

pub returns-clause-put : goal.returns-clause-put
returns-clause-put g c =
    let v = view c.pass.inside.pass in
    let w = view c.take_up-waiting.new.seat in
    let z = view c.lay_put.new.seat in
    let x = c.take_up-waiting.result in
    let y = c.put_all-refused.new.waiting in
    let some = c.put_all-refused.ensures.put in
    let up = c.take_up-waiting.ensures.up in
    let len = c.len.ensures.len in
    let most = c.len.ensures.within.0 in
    let it = laid_puts v w z x up some.put y some.items some.capacity (omega (arith, len, most)) c.lay_put.ensures.laid in
    round_put v w z x y c.args.slots c.args.first up some it _ _ _ _ _ _ c.requires.first c.pass.view_is c.self.view_is c.requires.pass
