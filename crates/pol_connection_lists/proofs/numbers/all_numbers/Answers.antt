use Rattle.std.proofs.Common.{List, map, ap, ◌∙◌}
use Rattle.std.proofs.lemmas.Result.{IfOk-weaker}
use Rattle.pol_model.specs.declared.row.IdentityRow.{IdentityRow}
use Rattle.pol_connection_lists.proofs.RowOf.{all_stand}
use Rattle.pol_connection_lists.proofs.numbers.all_numbers.Goals as goal

pub returns : goal.returns
returns c =
    IfOk-weaker c.numbers_under.result _ _ (λ numbers told. told ∙ ap (λ (rows : List IdentityRow). map (λ (row : IdentityRow). row.number) rows) (all_stand c.args.identities.now))
    c.numbers_under.ensures.numbers
