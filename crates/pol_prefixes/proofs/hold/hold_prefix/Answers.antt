use Rattle.std.proofs.Common.{is_some, sym, ap, ◌∙◌}
use Rattle.pol_model.specs.Identities.{released}
use Rattle.pol_prefixes.proofs.Tables.{table_held, table_known}
use Rattle.pol_prefixes.proofs.Undoing.{none_is, number_held, one_undone}
use Rattle.pol_prefixes.proofs.hold.hold_prefix.Goals as goal

pub returns-then-known-clause-table : goal.returns-then-known-clause-table
returns-then-known-clause-table c =
    rw c.in-Ok.ensures.ok
    (table_known c.args.identities.now c.args.table.now c.requires.table c.args.prefix (ap is_some (sym c.number_of_prefix.ensures.number) ∙ sym c.is_some-known.ensures ∙ c.if-known.true))

pub release-requires : goal.release-requires
release-requires c = record { held = rw c.in-Ok.ensures.ok (number_held c.args.prefix c.args.identities.now c.in-Ok.number c.in-Ok.ensures.number) }

pub returns-in-Ok-insert-clause-table : goal.returns-in-Ok-insert-clause-table
returns-in-Ok-insert-clause-table c =
    rw (c.in-Ok-insert.ensures.ok, c.in-Ok.ensures.ok) (table_held c.args.identities.now c.args.table.now c.requires.table c.args.prefix c.in-Ok.number c.in-Ok.ensures.number)

pub returns-in-Err-insert-clause-err : goal.returns-in-Err-insert-clause-err
returns-in-Err-insert-clause-err c =
    let none = none_is _ (ap is_some (sym c.number_of_prefix.ensures.number) ∙ sym c.is_some-known.ensures ∙ c.if-known.false) in
    c.release.ensures.rows
    ∙ ap (released c.in-Ok.number) c.in-Ok.ensures.ok
    ∙ one_undone c.args.prefix c.args.identities.now c.in-Ok.number c.number_of_prefix.ensures.sound c.len-len.ensures.valid c.in-Ok.ensures.number (λ all. absurd (let wrong = c.in-Ok.ensures.exhausted.1 (all, none) in cc))

pub returns-in-Err-insert-clause-table : goal.returns-in-Err-insert-clause-table
returns-in-Err-insert-clause-table c = rw (c.in-Err-insert.ensures.err, returns-in-Err-insert-clause-err c) c.requires.table
