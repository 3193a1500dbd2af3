use Rattle.std.proofs.Common.{subst, ◌∙◌, arith}
use Rattle.std.proofs.lemmas.Result.{IfOk-weaker}
use Rattle.std.specs.List.{flat_map}
use Rattle.pol_audit.specs.Exact.{groups_at}
use Rattle.pol_audit.specs.First.{IsFirstIn, IsFirstOf}
use Rattle.pol_audit.proofs.Deciding.{ports_ascend}
use Rattle.pol_audit.proofs.Parts.{ids_ascend, numbers_are}
use Rattle.pol_audit.proofs.Shares.{extent_is}
use Rattle.pol_audit.proofs.first.first_of_direction.Goals as goal

pub first_of_numbers-requires-clause-left : goal.first_of_numbers-requires-clause-left
first_of_numbers-requires-clause-left g c = ids_ascend c.args.dir c.args.left.now c.deref-3.result.now c.requires.left (c.deref-3.ensures.value ∙ c.in_ok-left_part.ensures)

pub first_of_numbers-requires-clause-right : goal.first_of_numbers-requires-clause-right
first_of_numbers-requires-clause-right g c = ids_ascend c.args.dir c.args.right.now c.deref-4.result.now c.requires.right (c.deref-4.ensures.value ∙ c.in_ok-right_part.ensures)

pub first_of_numbers-requires-clause-left_ports : goal.first_of_numbers-requires-clause-left_ports
first_of_numbers-requires-clause-left_ports g c = ports_ascend c.args.dir c.args.left.now c.deref-3.result.now c.requires.left (c.deref-3.ensures.value ∙ c.in_ok-left_part.ensures) c.are_entries.ensures

pub first_of_numbers-requires-clause-right_ports : goal.first_of_numbers-requires-clause-right_ports
first_of_numbers-requires-clause-right_ports g c =
    ports_ascend c.args.dir c.args.right.now c.deref-4.result.now c.requires.right (c.deref-4.ensures.value ∙ c.in_ok-right_part.ensures) c.are_entries-2.ensures

pub returns : goal.returns
returns g c =
    let left = c.args.left.now in
    let right = c.args.right.now in
    let dir = c.args.dir in
    let numbers = c.in_ok-numbers.numbers.items in
    let extent = extent_is dir left right c.deref.result.now c.deref-2.result.now c.deref-3.result.now c.deref-4.result.now numbers c.deref-5.result.now
    (c.deref.ensures.value ∙ c.in_ok-left_part.ensures) (c.deref-2.ensures.value ∙ c.in_ok-right_part.ensures)
    (c.deref-3.ensures.value ∙ c.in_ok-left_part.ensures) (c.deref-4.ensures.value ∙ c.in_ok-right_part.ensures) c.deref-5.ensures.value
    c.in_ok-numbers.ensures.ascend c.in_ok-numbers.ensures.members in
    let cost = c.first_of_numbers.ensures.cost in
    record {
      first = IfOk-weaker c.first_of_numbers.result _ (λ first. IsFirstIn left right dir first) (λ first found. record {
        numbers = numbers;
        are = numbers_are dir left right c.deref.result.now c.deref-2.result.now numbers (c.deref.ensures.value ∙ c.in_ok-left_part.ensures) (c.deref-2.ensures.value ∙ c.in_ok-right_part.ensures) c.in_ok-numbers.ensures.members;
        first_of = subst (λ ns. IsFirstOf left right (flat_map (groups_at dir) ns) first) c.deref-5.ensures.value
            (found left right (c.requires.left, c.deref-3.ensures.value ∙ c.in_ok-left_part.ensures) (c.requires.right, c.deref-4.ensures.value ∙ c.in_ok-right_part.ensures) c.are_entries.ensures c.are_entries-2.ensures);
      }) c.first_of_numbers.ensures.first;
      small_left = c.are_entries.ensures;
      small_right = c.are_entries-2.ensures;
      forward = c.first_of_numbers.ensures.forward;
      cost = omega arith;
    }
