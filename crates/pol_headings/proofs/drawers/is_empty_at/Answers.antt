use Rattle.std.proofs.Common.{ℕ, sym, ap, ◌∙◌, refl}
use Rattle.pol_headings.specs.Heading.{heading_by}
use Rattle.pol_headings.proofs.Numbers.{has-none, none-has}
use Rattle.pol_headings.proofs.Refiled.{filed_at, is_in}
use Rattle.pol_headings.proofs.drawers.is_empty_at.Goals as goal

pub returns-in-None : goal.returns-in-None
returns-in-None c =
    ((λ empty n. filed_at c.args.drawers.now.entries (heading_by c.args.heading.now) n ∙ ap (λ o. is_in o n) (sym c.in-None.ensures.value)), (λ empty. refl))

pub returns-in-Some : goal.returns-in-Some
returns-in-Some c =
    let es = c.args.drawers.now.entries in
    let at = λ (n : ℕ). filed_at es (heading_by c.args.heading.now) n ∙ ap (λ o. is_in o n) (sym c.in-Some.ensures.value) in (
      (λ empty n. at n ∙ has-none n _ (c.is_empty.ensures.0 empty)),
      (λ none. c.is_empty.ensures.1 (none-has _ (λ n. sym (at n) ∙ none n))),
    )
