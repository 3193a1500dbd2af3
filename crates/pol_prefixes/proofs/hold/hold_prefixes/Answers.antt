use Rattle.std.proofs.Common.{◌++◌, ap, ◌∙◌, subst}
use Rattle.pol_prefixes.specs.Coming.{all_coming}
use Rattle.pol_prefixes.specs.Tables.{IsTableOf}
use Rattle.pol_prefixes.proofs.Come.{all_beyond}
use Rattle.pol_prefixes.proofs.Results.{on_err}
use Rattle.pol_prefixes.proofs.Tables.{one_table}
use Rattle.pol_prefixes.proofs.hold.hold_prefixes.Goals as goal

pub returns-in_err-hold_each-clause-same_table : goal.returns-in_err-hold_each-clause-same_table
returns-in_err-hold_each-clause-same_table c =
    on_err c.from_residual.result
    (one_table c.args.identities.now c.hold_each.new.table c.args.table.now
    (subst (λ rows. IsTableOf rows c.hold_each.new.table) c.in_err-hold_each.ensures.err c.in_err-hold_each.ensures.table) c.requires.table)

pub returns-clause-come : goal.returns-clause-come
returns-clause-come c =
    let come = c.in_ok-hold_each.ensures.come ∙ ap (λ items. items ++ all_coming c.args.prefixes.now c.args.identities.now) c.new-come.ensures.items in
    λ number. rw (come, c.in_ok-hold_each.ensures.ok) (all_beyond c.args.prefixes.now c.args.identities.now c.are_too_many.ensures.keeps.numbers number)
