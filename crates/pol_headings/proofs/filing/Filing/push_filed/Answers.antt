use Rattle.std.proofs.Common.{◌≡◌, ℕ, ◌||◌, ◌==◌, ◌++◌, sym, ap, ◌∙◌}
use Rattle.std.proofs.lemmas.List.Folds.{list_any-append}
use Rattle.std.proofs.lemmas.Result.{on_ok_weaker}
use Rattle.pol_headings.specs.Filed.{has, is_filed}
use Rattle.pol_headings.specs.Heading.{heading_by}
use Rattle.pol_headings.proofs.Refiled.{or_none, viewed}
use Rattle.pol_headings.proofs.filing.Filing.push_filed.Goals as goal

pub returns-in-None : goal.returns-in-None
returns-in-None c = λ n.
    let is = viewed c.args.self.now c.self.inside.drawers.entries c.self.view_is (heading_by c.args.heading.now) _ c.in-None.ensures.value n in
    or_none (has n c.args.numbers.now.items) ∙ ap (λ b. has n c.args.numbers.now.items || b) (sym is)

pub returns-in-Some : goal.returns-in-Some
returns-in-Some c =
    let old = c.args.numbers.now.items in
    let filed = c.in-Some.filed.now.keys in
    let pushed : c.push_all.new.numbers.items ≡ old ++ filed → (n : ℕ) → has n c.push_all.new.numbers.items ≡ (has n old || is_filed c.args.self.now (heading_by c.args.heading.now) n) = λ items n.
    ap (has n) items
    ∙ list_any-append (λ own. own == n) old filed
    ∙ ap (λ b. has n old || b) (sym (viewed c.args.self.now c.self.inside.drawers.entries c.self.view_is (heading_by c.args.heading.now) _ c.in-Some.ensures.value n)) in
    on_ok_weaker _ pushed c.push_all.ensures.items
