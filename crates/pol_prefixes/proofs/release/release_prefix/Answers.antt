use Rattle.std.proofs.Common.{sym, ap, ◌∙◌}
use Rattle.pol_model_laws.specs.Holding.{has_row}
use Rattle.pol_prefixes.proofs.Numbers.{number_has}
use Rattle.pol_prefixes.proofs.Tables.{table_stays, table_without}
use Rattle.pol_prefixes.proofs.release.release_prefix.Goals as goal

pub release-requires : goal.release-requires
release-requires c = record { held = number_has c.args.prefix c.args.identities.now c.in-Some.number (sym c.in-Some.ensures.number) }

pub returns-then-not-held-clause-table : goal.returns-then-not-held-clause-table
returns-then-not-held-clause-table c =
    rw (c.remove.ensures.rest, c.release.ensures.rows)
    (table_without c.args.identities.now c.args.table.now c.requires.table c.args.prefix c.number_of_prefix.ensures.sound c.in-Some.number (sym c.in-Some.ensures.number)
    (ap (has_row c.in-Some.number) (sym c.release.ensures.rows) ∙ sym c.held.ensures.held ∙ c.if-not-held.true))

pub returns-else-not-held-clause-table : goal.returns-else-not-held-clause-table
returns-else-not-held-clause-table c =
    rw c.release.ensures.rows
    (table_stays c.args.identities.now c.args.table.now c.requires.table c.args.prefix c.number_of_prefix.ensures.sound c.in-Some.number (sym c.in-Some.ensures.number)
    (ap (has_row c.in-Some.number) (sym c.release.ensures.rows) ∙ sym c.held.ensures.held ∙ c.if-not-held.false))
