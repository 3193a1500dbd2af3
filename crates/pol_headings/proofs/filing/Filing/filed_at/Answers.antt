use Rattle.std.proofs.Common.{◌≡◌, ℕ, sym, ap, ◌∙◌}
use Rattle.std.proofs.lemmas.Result.{IfOk-weaker}
use Rattle.pol_headings.specs.Filed.{has, is_filed}
use Rattle.pol_headings.specs.Heading.{heading_by}
use Rattle.pol_headings.proofs.Refiled.{viewed}
use Rattle.pol_headings.proofs.filing.Filing.filed_at.Goals as goal

pub returns-in-None-clause-members : goal.returns-in-None-clause-members
returns-in-None-clause-members c = λ n.
    ap (has n) c.new.ensures.items
    ∙ sym (viewed c.args.self.now c.self.inside.drawers.entries c.self.view_is (heading_by c.args.heading.now) _ c.in-None.ensures.value n)

pub returns-in-Some-clause-members : goal.returns-in-Some-clause-members
returns-in-Some-clause-members c =
    IfOk-weaker c.numbers_of.result (λ numbers. numbers.items ≡ c.in-Some.filed.now.keys) (λ numbers. (n : ℕ) → has n numbers.items ≡ is_filed c.args.self.now (heading_by c.args.heading.now) n)
    (λ numbers is n.
    ap (has n) is
    ∙ sym (viewed c.args.self.now c.self.inside.drawers.entries c.self.view_is (heading_by c.args.heading.now) _ c.in-Some.ensures.value n))
    c.numbers_of.ensures.items
