use Rattle.std.proofs.Common.{sym, ◌∙◌}
use Rattle.pol_model.specs.declared.row.IdentityRow.{IdentityRow}
use Rattle.pol_connection_lists.proofs.RowOf.{not_none}
use Rattle.pol_connection_lists.proofs.numbers.holders_of.Goals as goal

pub unreachable-requires : goal.unreachable-requires
unreachable-requires c =
    not_none c.args.number c.args.identities.now (λ (row : IdentityRow). row.holders) c.requires (sym c.holders_of.ensures.holders ∙ c.in-None.is)
