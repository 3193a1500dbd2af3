use Rattle.std.proofs.Common.{◌≡◌, not, true, ap, sym, subst, ◌∙◌}
use Rattle.pol_model.specs.Identities.{released}
use Rattle.pol_model_laws.specs.Holding.{has_row}
use Rattle.pol_allocator.specs.Held.{Held}
use Rattle.pol_allocator.proofs.Going.{last_is, none_last}
use Rattle.pol_allocator.proofs.allocator.Allocator.is_last.Goals as goal

pub returns-in-Some-clause-last : goal.returns-in-Some-clause-last
returns-in-Some-clause-last c =
    let there = subst (λ (held : Held). has_row c.args.number held.rows ≡ true) (sym c.self.view_is) c.requires.held in
    c.goes_with_one.ensures
    ∙ last_is c.args.number c.self.inside.identities c.self.invariant.0 c.in-Some.holders there c.in-Some.ensures.holders
    ∙ ap (λ (held : Held). not (has_row c.args.number (released c.args.number held.rows))) c.self.view_is

pub returns-in-None-clause-last : goal.returns-in-None-clause-last
returns-in-None-clause-last c =
    let there = subst (λ (held : Held). has_row c.args.number held.rows ≡ true) (sym c.self.view_is) c.requires.held in
    absurd (none_last c.args.number c.self.inside.identities c.self.invariant.0 there c.in-None.ensures.holders)
