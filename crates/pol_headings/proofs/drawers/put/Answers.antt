use Rattle.std.proofs.Common.{◌≡◌, ◌||◌, ◌==◌, Some, None, is_some, cond, sym, ap, ◌∙◌}
use Rattle.std.specs.Map.{lookup}
use Rattle.pol_headings.specs.Filed.{has}
use Rattle.pol_headings.specs.Heading.{heading_by, same_heading}
use Rattle.pol_headings.proofs.Refiled.{is_in, on_err, or_none, refiled, rewritten}
use Rattle.pol_headings.proofs.drawers.put.Goals as goal

pub returns-in_err-put_in-in-Some-clause-err : goal.returns-in_err-put_in-in-Some-clause-err
returns-in_err-put_in-in-Some-clause-err c =
    let es = c.args.drawers.now.entries in
    let heading = heading_by c.args.heading.now in
    let w = c.put_in.new.numbers in
    let there : lookup (same_heading heading) es ≡ Some c.in-Some.numbers.now = sym c.in-Some.ensures.value in
    let h = c.get_mut.follows.holds w in
    on_err _
    (rewritten es (c.get_mut.follows.lender w).entries heading (Some w) (h.3 (ap is_some there)).0
    (λ n. ap (has n) c.in_err-put_in-in-Some.ensures.err ∙ sym (ap (λ o. is_in o n) there)))

pub returns-in_ok-put_in-in-Some-clause-ok : goal.returns-in_ok-put_in-in-Some-clause-ok
returns-in_ok-put_in-in-Some-clause-ok c =
    let es = c.args.drawers.now.entries in
    let heading = heading_by c.args.heading.now in
    let w = c.put_in.new.numbers in
    let there : lookup (same_heading heading) es ≡ Some c.in-Some.numbers.now = sym c.in-Some.ensures.value in
    let h = c.get_mut.follows.holds w in
    refiled es (c.get_mut.follows.lender w).entries heading (Some w) (h.3 (ap is_some there)).0 (λ a b. a || b) or_none c.args.number
    (λ n. c.in_ok-put_in-in-Some.ensures.ok n ∙ sym (ap (λ o. is_in o n || (c.args.number == n)) there))

pub returns-in_ok-insert-in-None-clause-ok : goal.returns-in_ok-insert-in-None-clause-ok
returns-in_ok-insert-in-None-clause-ok c =
    let es = c.args.drawers.now.entries in
    let heading = heading_by c.args.heading.now in
    let none : lookup (same_heading heading) es ≡ None = sym c.in-None.ensures.value in
    let numbers = c.in_ok-numbers-in-None.numbers in
    refiled es c.insert.new.self.entries heading (Some numbers)
    (λ q. c.in_ok-insert-in-None.ensures.updates.0 q
    ∙ ap (λ k. cond (same_heading k q) (Some numbers) (lookup (same_heading q) c.get_mut.follows.lender-at-none.entries)) (c.in_ok-to_heading-in-None.ensures.equal)
    ∙ ap (λ m. cond (same_heading heading q) (Some numbers) (lookup (same_heading q) m.entries)) c.get_mut.follows.holds-at-none)
    (λ a b. a || b) or_none c.args.number
    (λ n. c.in_ok-numbers-in-None.ensures n ∙ sym (ap (λ o. is_in o n || (c.args.number == n)) none))
