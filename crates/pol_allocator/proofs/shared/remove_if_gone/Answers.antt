use Rattle.std.proofs.Common.{◌≡◌, not, true, is_none, ap, sym, subst, ◌∙◌}
use Rattle.pol_model.specs.Prefixes.{number_of_prefix}
use Rattle.pol_allocator.specs.Sharing.{IsWithoutGone}
use Rattle.pol_allocator.proofs.Sharing.{gone_without}
use Rattle.pol_allocator.proofs.shared.remove_if_gone.Goals as goal

pub returns-then-is_none : goal.returns-then-is_none
returns-then-is_none c =
    let rows = c.args.identities.now in
    let none : is_none (number_of_prefix c.args.prefix rows) ≡ true =
    ap is_none (sym c.number_of_prefix.ensures.number) ∙ ap not (c.is_none.ensures ∙ ap not c.if-is_none.true) in
    subst (IsWithoutGone c.args.prefix rows c.args.table.now) (sym c.remove.ensures.rest) (gone_without c.args.prefix rows c.args.table.now none)
