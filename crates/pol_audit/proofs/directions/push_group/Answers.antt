use Rattle.std.proofs.Common.{◌++◌, length, ap, sym, subst, ◌∙◌, length-append, arith}
use Rattle.std.specs.List.{Contains}
use Rattle.std.specs.List.Sorted.{IsStrictlySortedBy}
use Rattle.std.specs.Ordering.{nat_cmp}
use Rattle.pol_audit.specs.Exact.{words_of}
use Rattle.pol_audit.specs.Kinds.{both_said}
use Rattle.pol_audit.specs.Ranges.{ranges_from}
use Rattle.pol_audit.proofs.Deciding.{among, said_words}
use Rattle.pol_audit.proofs.Groups.{group_exact}
use Rattle.pol_audit.proofs.Results.{on_ok}
use Rattle.pol_audit.proofs.Shares.{ranges_few}
use Rattle.pol_audit.proofs.directions.push_group.Goals as goal

pub push_ranges-requires-clause-ports : goal.push_ranges-requires-clause-ports
push_ranges-requires-clause-ports g c = subst (IsStrictlySortedBy nat_cmp) (sym c.deref-2.ensures.value) c.in_ok-ports.ensures.ascend

pub push_ranges-requires-clause-first : goal.push_ranges-requires-clause-first
push_ranges-requires-clause-first g c = (c.in_ok-ports.ensures.first.0, c.deref-2.ensures.value ∙ c.in_ok-ports.ensures.first.1)

pub returns-clause-grown : goal.returns-clause-grown
returns-clause-grown g c =
    let own = c.args.parts.now in
    let ports = c.in_ok-ports.ports.items in
    let group = c.args.group in
    let said = both_said group.proto own.left.now own.right.now own.left_every.now own.right_every.now in
    on_ok c.push_ranges.result _ _ c.push_ranges.ensures.ranges (λ made left right of_left of_right. (
      ranges_from group (words_of left right group) 0 ports,
      made ∙ ap (λ ps. c.args.out.now.items ++ ranges_from group said 0 ps) c.deref-2.ensures.value
          ∙ ap (λ f. c.args.out.now.items ++ ranges_from group f 0 ports) (said_words group own.left.now own.right.now own.left_every.now own.right_every.now left right of_left of_right),
      group_exact left right own.left.now own.right.now own.left_every.now own.right_every.now group ports
          c.in_ok-ports.ensures.has c.in_ok-ports.ensures.ascend (λ n there. c.are_ports.ensures n (subst (λ ps. Contains ps n) (sym c.deref.ensures.value) there))
          (among group.dir group.id own.left.now own.left_every.now left of_left) (among group.dir group.id own.right.now own.right_every.now right of_right),
    ))

pub returns-clause-few : goal.returns-clause-few
returns-clause-few g c =
    let own = c.args.parts.now in
    let said = both_said c.args.group.proto own.left.now own.right.now own.left_every.now own.right_every.now in
    on_ok c.push_ranges.result _ _ c.push_ranges.ensures.ranges (λ made.
    let all = ap length made ∙ length-append c.args.out.now.items (ranges_from c.args.group said 0 c.deref-2.result.now) in
    let few = ranges_few c.args.group said 0 c.deref-2.result.now in
    let ports = ap length c.deref-2.ensures.value in
    let most = c.in_ok-ports.ensures.few in
    omega arith)

pub returns-clause-forward : goal.returns-clause-forward
returns-clause-forward g c = c.push_ranges.ensures.forward

pub returns-clause-cost : goal.returns-clause-cost
returns-clause-cost g c =
    let cost = c.push_ranges.ensures.cost in
    let ports = ap length c.deref-2.ensures.value in
    let most = c.in_ok-ports.ensures.few in
    omega arith
