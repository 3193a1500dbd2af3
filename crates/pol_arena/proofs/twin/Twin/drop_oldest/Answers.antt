use Rattle.std.proofs.Common.{sym, ◌∙◌, refl, arith}
use Rattle.std.proofs.lemmas.List.{append-nil}
use Rattle.std.specs.VecDeque.{deque_capacity}
use Rattle.pol_arena.proofs.Kept.{kept_sound}
use Rattle.pol_arena.proofs.Changes.{kept_room, kept_drop, dropped_placed, dropped_value, dropped_view}
use Rattle.pol_arena.proofs.twin.Twin.drop_oldest.Goals as goal

pub returns-in_err-value-clause-sound : goal.returns-in_err-value-clause-sound
returns-in_err-value-clause-sound g c =
    let same = c.in_err-value.ensures.items ∙ append-nil c.pop_back.new.self.items in
    kept_sound (kept_room c.self.invariant c.pop_back.new.self.items c.self.inside.newest.items (deque_capacity c.self.inside.nodes) (sym same) refl (omega arith)) _ refl

pub forget-requires : goal.forget-requires
forget-requires g c =
    let placed = dropped_placed c.self.invariant c.pop_back.new.self.items c.in_ok-value.field-0 c.in_ok-value.ensures.items in
    let len = c.self.inside.newest.ok.0 in
    omega arith

pub invariant_of-self-2 : goal.invariant_of-self-2
invariant_of-self-2 g c =
    rw (c.forget.ensures, c.len.ensures ∙ c.pop_back.new.self.ok.0, c.pop_back.ensures.capacity)
    (kept_drop c.self.invariant c.pop_back.new.self.items c.in_ok-value.field-0 c.in_ok-value.ensures.items)

pub returns-clause-value : goal.returns-clause-value
returns-clause-value g c =
    dropped_value c.self.invariant c.pop_back.new.self.items c.in_ok-value.field-0 c.in_ok-value.ensures.items c.args.self.now c.self.view_is

pub returns-clause-gone : goal.returns-clause-gone
returns-clause-gone g c =
    rw (c.forget.ensures, c.len.ensures ∙ c.pop_back.new.self.ok.0)
    (dropped_view c.self.invariant c.pop_back.new.self.items c.in_ok-value.field-0 c.in_ok-value.ensures.items c.args.self.now c.self.view_is)

pub returns-clause-sound : goal.returns-clause-sound
returns-clause-sound g c = kept_sound (invariant_of-self-2 g c) _ refl
