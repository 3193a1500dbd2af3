use Rattle.std.proofs.Common.{◌≡◌, ◌-◌, true, take, length, slice_get, ap, sym, subst, ◌∙◌, arith}
use Rattle.std.specs.List.{Contains}
use Rattle.pol_audit.specs.Kinds.{has_ended, last_at}
use Rattle.pol_audit.proofs.Open.{in_taken, last_has, left_length, left_same}
use Rattle.pol_audit.proofs.kinds.leave_out.Goals as goal

pub loop-held-preserved : goal.loop-held-preserved
loop-held-preserved g c =
    let inv = c.loop-held.invariant in
    let es = c.loop-held.held.items in
    let port = c.args.port in
    let ended : has_ended port (slice_get es (length es - 1)) ≡ true =
    ap (λ xs. has_ended port (slice_get xs (length xs - 1))) (sym c.deref.ensures.value) ∙ sym c.has_ended.ensures ∙ c.loop-held-test.true in
    let popped : c.pop.new.self.items ≡ take (length es - 1) es = c.pop.ensures.rest ∙ ap (λ n. take (n - 1) es) c.loop-held.held.ok.0 in
    record {
      low = λ e there. inv.low e (in_taken (length es - 1) es e (subst (λ xs. Contains xs e) popped there));
      same = λ q le. ap (last_at q) popped ∙ left_same port es ended inv.low q le ∙ inv.same q le;
      forward = (let before = inv.forward in let more = c.tick.ensures in omega arith);
      each = (let before = inv.each in let more = c.tick.ensures in let fewer = left_length port es ended in let now = ap length popped in omega arith);
    }

pub returns-clause-last : goal.returns-clause-last
returns-clause-last g c =
    let es = c.loop-held.held.items in
    let port = c.args.port in
    last_has port es (ap (λ xs. has_ended port (slice_get xs (length xs - 1))) (sym c.deref.ensures.value) ∙ sym c.has_ended.ensures ∙ c.loop-held-test.false)
