use Rattle.std.proofs.Common.{◌≡◌, ◌&&◌, ◌==◌, not, Some, None, is_some, sym, ap, ◌∙◌}
use Rattle.std.specs.Map.{lookup}
use Rattle.pol_headings.specs.Heading.{heading_by, same_heading}
use Rattle.pol_headings.proofs.Refiled.{and_all, is_in, refiled, unwritten}
use Rattle.pol_headings.proofs.drawers.take_from.Goals as goal

pub returns-in-Some-clause-rest : goal.returns-in-Some-clause-rest
returns-in-Some-clause-rest c =
    let es = c.args.drawers.now.entries in
    let heading = heading_by c.args.heading.now in
    let w = c.take_out.new.numbers in
    let there : lookup (same_heading heading) es ≡ Some c.in-Some.numbers.now = sym c.in-Some.ensures.value in
    let h = c.get_mut.follows.holds w in
    refiled es (c.get_mut.follows.lender w).entries heading (Some w) (h.3 (ap is_some there)).0 (λ a b. a && not b) and_all c.args.number
    (λ n. c.take_out.ensures n ∙ sym (ap (λ o. is_in o n && not (c.args.number == n)) there))

pub returns-in_default-clause-rest : goal.returns-in_default-clause-rest
returns-in_default-clause-rest c =
    let es = c.args.drawers.now.entries in
    let heading = heading_by c.args.heading.now in
    let none : lookup (same_heading heading) es ≡ None = sym c.in_default.ensures.value in
    refiled es c.get_mut.follows.lender-at-none.entries heading None
    (λ q. ap (λ m. lookup (same_heading q) m.entries) c.get_mut.follows.holds-at-none ∙ unwritten es heading None none q)
    (λ a b. a && not b) and_all c.args.number
    (λ n. sym (ap (λ o. is_in o n && not (c.args.number == n)) none))
