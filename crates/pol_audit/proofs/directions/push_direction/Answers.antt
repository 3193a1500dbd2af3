use Rattle.std.proofs.Common.{subst, ◌∙◌, arith}
use Rattle.std.specs.List.{flat_map}
use Rattle.pol_audit.specs.Exact.{Grown, groups_at}
use Rattle.pol_audit.proofs.Deciding.{ports_ascend}
use Rattle.pol_audit.proofs.Parts.{ids_ascend, numbers_are}
use Rattle.pol_audit.proofs.Results.{on_ok}
use Rattle.pol_audit.proofs.Shares.{extent_is}
use Rattle.pol_audit.proofs.directions.push_direction.Goals as goal

pub push_numbers-requires-clause-left : goal.push_numbers-requires-clause-left
push_numbers-requires-clause-left g c = ids_ascend c.args.dir c.args.left.now c.deref-3.result.now c.requires.left (c.deref-3.ensures.value ∙ c.in_ok-left_part.ensures)

pub push_numbers-requires-clause-right : goal.push_numbers-requires-clause-right
push_numbers-requires-clause-right g c = ids_ascend c.args.dir c.args.right.now c.deref-4.result.now c.requires.right (c.deref-4.ensures.value ∙ c.in_ok-right_part.ensures)

pub push_numbers-requires-clause-left_ports : goal.push_numbers-requires-clause-left_ports
push_numbers-requires-clause-left_ports g c = ports_ascend c.args.dir c.args.left.now c.deref-3.result.now c.requires.left (c.deref-3.ensures.value ∙ c.in_ok-left_part.ensures) c.are_entries.ensures

pub push_numbers-requires-clause-right_ports : goal.push_numbers-requires-clause-right_ports
push_numbers-requires-clause-right_ports g c =
    ports_ascend c.args.dir c.args.right.now c.deref-4.result.now c.requires.right (c.deref-4.ensures.value ∙ c.in_ok-right_part.ensures) c.are_entries-2.ensures

pub returns : goal.returns
returns g c =
    let left = c.args.left.now in
    let right = c.args.right.now in
    let dir = c.args.dir in
    let numbers = c.in_ok-numbers.numbers.items in
    let old = c.args.out.now.items in
    let new = c.push_numbers.new.out.items in
    let extent = extent_is dir left right c.deref.result.now c.deref-2.result.now c.deref-3.result.now c.deref-4.result.now numbers c.deref-5.result.now
    (c.deref.ensures.value ∙ c.in_ok-left_part.ensures) (c.deref-2.ensures.value ∙ c.in_ok-right_part.ensures)
    (c.deref-3.ensures.value ∙ c.in_ok-left_part.ensures) (c.deref-4.ensures.value ∙ c.in_ok-right_part.ensures) c.deref-5.ensures.value
    c.in_ok-numbers.ensures.ascend c.in_ok-numbers.ensures.members in
    let cost = c.push_numbers.ensures.cost in
    record {
      grown = on_ok c.push_numbers.result _ _ c.push_numbers.ensures.grown (λ made. (
        numbers,
        numbers_are dir left right c.deref.result.now c.deref-2.result.now numbers (c.deref.ensures.value ∙ c.in_ok-left_part.ensures) (c.deref-2.ensures.value ∙ c.in_ok-right_part.ensures) c.in_ok-numbers.ensures.members,
        subst (λ ns. Grown left right (flat_map (groups_at dir) ns) old new) c.deref-5.ensures.value
            (made left right (c.requires.left, c.deref-3.ensures.value ∙ c.in_ok-left_part.ensures) (c.requires.right, c.deref-4.ensures.value ∙ c.in_ok-right_part.ensures)),
      ));
      few = on_ok c.push_numbers.result _ _ c.push_numbers.ensures.few (λ few. omega arith);
      forward = c.push_numbers.ensures.forward;
      cost = omega arith;
    }
