use Rattle.std.proofs.Common.{ℕ, [], ◌∷◌, ◌∙◌, ap, sym, append-nil, arith}
use Rattle.circular_buffer.specs.Buffer.{Buffer}
use Rattle.crossbeam_queue.specs.Passes.{view}
use Rattle.pol_hints.proofs.Laying.{at_rest, laid_puts, of_queue}
use Rattle.pol_hints.proofs.hints.Hints.put.Goals as goal
use Rattle.pol_hints.proofs.hints.Hints.put.Goals.{in-Ok, in-Err}

pub invariant_of-pass : goal.invariant_of-pass
invariant_of-pass g c =
    let v = view c.pass.inside.pass in
    let w = view c.take_up-waiting.new.seat in
    let z = view c.lay_put.new.seat in
    let x = c.take_up-waiting.result in
    let y = c.try_push_back-put.new.self in
    let up = c.take_up-waiting.ensures.up in
    let len = c.len.ensures.len in
    let most = c.len.ensures.within.0 in
    let bare = c.lay_put.ensures.queue.2 ∙ c.take_up-waiting.ensures.queue.2 ∙ c.pass.invariant.bare in
    elim c.match-put.branch [
      | in-Ok b ↦ at_rest v w z _ (laid_puts v w z x up (c.args.slot ∷ []) y (ap (λ (k : Buffer ℕ). k.items) b.in-Ok.ensures.ok) (ap (λ (k : Buffer ℕ). k.capacity) b.in-Ok.ensures.ok) (omega (arith, len, most)) c.lay_put.ensures.laid) _ bare c.pass.invariant.part
      | in-Err b ↦ at_rest v w z _ (laid_puts v w z x up [] y (ap (λ (k : Buffer ℕ). k.items) b.in-Err.ensures.err.1 ∙ sym (append-nil x.items)) (ap (λ (k : Buffer ℕ). k.capacity) b.in-Err.ensures.err.1) (omega (arith, len, most)) c.lay_put.ensures.laid) _ bare c.pass.invariant.part
    ]

pub returns-clause-pass : goal.returns-clause-pass
returns-clause-pass g c =
    let v = view c.pass.inside.pass in
    let w = view c.take_up-waiting.new.seat in
    let z = view c.lay_put.new.seat in
    let x = c.take_up-waiting.result in
    let y = c.try_push_back-put.new.self in
    let up = c.take_up-waiting.ensures.up in
    let len = c.len.ensures.len in
    let most = c.len.ensures.within.0 in
    let same = c.lay_put.ensures.queue.0 ∙ c.take_up-waiting.ensures.queue.0 in
    elim c.match-put.branch [
      | in-Ok b ↦ of_queue v w z _ (laid_puts v w z x up (c.args.slot ∷ []) y (ap (λ (k : Buffer ℕ). k.items) b.in-Ok.ensures.ok) (ap (λ (k : Buffer ℕ). k.capacity) b.in-Ok.ensures.ok) (omega (arith, len, most)) c.lay_put.ensures.laid) _ _ _ _ _ _ same c.pass.view_is c.self.view_is c.requires.pass c.pass.invariant.part
      | in-Err b ↦ of_queue v w z _ (laid_puts v w z x up [] y (ap (λ (k : Buffer ℕ). k.items) b.in-Err.ensures.err.1 ∙ sym (append-nil x.items)) (ap (λ (k : Buffer ℕ). k.capacity) b.in-Err.ensures.err.1) (omega (arith, len, most)) c.lay_put.ensures.laid) _ _ _ _ _ _ same c.pass.view_is c.self.view_is c.requires.pass c.pass.invariant.part
    ]
