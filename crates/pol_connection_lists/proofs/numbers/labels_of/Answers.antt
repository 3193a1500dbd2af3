use Rattle.std.proofs.Common.{sym, ap, ◌∙◌}
use Rattle.std.specs.Option.{option_copied}
use Rattle.pol_model.specs.declared.row.IdentityRow.{IdentityRow}
use Rattle.pol_connection_lists.proofs.RowOf.{not_none}
use Rattle.pol_connection_lists.proofs.numbers.labels_of.Goals as goal

pub unreachable-requires : goal.unreachable-requires
unreachable-requires c =
    not_none c.args.number c.args.identities.now (λ (row : IdentityRow). row.labels) c.requires (sym c.labels_of.ensures.labels ∙ ap option_copied c.in-None.is)
