use Rattle.std.proofs.Common.{◌≡◌, true, [], ◌∷◌, ◌++◌, ◌-◌, drop, length, slice_get, ap, sym, ◌∙◌, arith}
use Rattle.std.proofs.lemmas.List.{length-drop, take_all}
use Rattle.pol_audit.specs.Kinds.{begins_by}
use Rattle.pol_audit.proofs.Open.{taken_more, taken_some}
use Rattle.pol_audit.proofs.kinds.take_in.Goals as goal

pub loop-held-preserved : goal.loop-held-preserved
loop-held-preserved g c =
    let inv = c.loop-held.invariant in
    let es = c.args.entries.now in
    let port = c.args.port in
    let next = c.loop-held.next in
    let whole = take_all (length es - next) (drop next es) (let long = length-drop next es in omega arith) in
    let begins : begins_by port (slice_get (drop next es) 0) ≡ true = ap (λ xs. begins_by port (slice_get xs 0)) (sym whole) ∙ sym c.begins_by.ensures ∙ c.loop-held-test.true in
    let below = taken_some port next es begins in
    let longer = ap length c.in_ok-push.ensures.items in
    let ticked = c.tick.ensures in
    record {
      within = omega arith;
      taken = taken_more port c.args.place next es c.args.held.now.items c.loop-held.held.items c.push.new.self.items c.index-entries-next.result inv.taken begins
          (c.in_ok-push.ensures.items ∙ ap (λ e. c.loop-held.held.items ++ e ∷ []) c.index-entries-next.is);
      forward = (let before = inv.forward in omega arith);
      cost = (let before = inv.cost in omega arith);
      each = (let before = inv.each in omega arith);
    }
