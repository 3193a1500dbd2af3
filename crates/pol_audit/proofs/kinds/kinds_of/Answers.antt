use Rattle.std.proofs.Common.{◌-◌, sym, subst, ◌∙◌, ap, get_or, length, option_map, slice_get, arith}
use Rattle.pol_mapkey.specs.Entries.{Entry}
use Rattle.pol_audit.specs.Kinds.{kind_at}
use Rattle.pol_audit.proofs.Open.{IsHeld, before_next, before_rises, held_first, held_then, kind_held, low_then, mapped_more, port_before}
use Rattle.pol_audit.proofs.kinds.kinds_of.Goals as goal

pub loop-port-init : goal.loop-port-init
loop-port-init g c = record {
  kinds = c.in_ok-kinds.ensures.items;
  held = subst (λ xs. IsHeld c.args.entries.now xs 0 0) (sym c.new-held.ensures.items) (held_first c.args.entries.now);
  forward = omega arith;
  cost = (let none = ap length c.new-held.ensures.items in omega arith);
}

pub leave_out-requires : goal.leave_out-requires
leave_out-requires g c =
    low_then c.args.entries.now c.loop-port.held.items _ c.loop-port.next _ (port_before c.args.ports.now c.loop-port.port-index) (get_or c.args.ports.now c.loop-port.port-index 0)
    c.loop-port.invariant.held (before_rises c.args.ports.now c.loop-port.port-index c.requires.ports c.loop-port-test.true) c.in_ok-next.ensures.taken

pub loop-port-preserved : goal.loop-port-preserved
loop-port-preserved g c =
    let es = c.args.entries.now in
    let ports = c.args.ports.now in
    let i = c.loop-port.port-index in
    let port = get_or ports i 0 in
    let inv = c.loop-port.invariant in
    let taken = c.in_ok-next.ensures in
    let left = c.leave_out.ensures in
    let held = held_then es c.loop-port.held.items c.take_in.new.held.items c.loop-port.next c.in_ok-next.next (port_before ports i) port inv.held
    (before_rises ports i c.requires.ports c.loop-port-test.true) taken.taken c.leave_out.new.held.items taken.within left.low left.same in
    let kind = kind_held es c.leave_out.new.held.items c.in_ok-next.next port c.last_kind.result c.requires.entries held taken.all left.last
    (c.last_kind.ensures ∙ ap (λ xs. option_map (λ (e : Entry). e.1) (slice_get xs (length xs - 1))) c.deref.ensures.value) in
    record {
      kinds = mapped_more (kind_at es) ports i c.loop-port.kinds.items c.push.new.self.items c.last_kind.result c.loop-port-test.true inv.kinds c.in_ok-push.ensures.items kind;
      held = subst (IsHeld es c.leave_out.new.held.items c.in_ok-next.next) (before_next ports i) held;
      forward = (let before = inv.forward in let took = taken.forward in let more = left.forward in let ticked = c.tick.ensures in omega arith);
      cost = (let before = inv.cost in let took = taken.each in let more = left.each in let ticked = c.tick.ensures in omega arith);
    }

pub returns-clause-cost : goal.returns-clause-cost
returns-clause-cost g c = (let inv = c.loop-port.invariant.cost in let within = c.loop-port.invariant.held.within in omega arith)
