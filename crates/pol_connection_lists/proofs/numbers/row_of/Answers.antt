use Rattle.std.proofs.Common.{Some, sym, ap, ◌∙◌}
use Rattle.pol_connection_lists.proofs.RowOf.{row_made}
use Rattle.pol_connection_lists.proofs.numbers.row_of.Goals as goal

pub returns : goal.returns
returns c =
    row_made c.args.number c.args.identities.now c.in_ok-labels.labels c.prefix_of.result c.holders_of.result c.requires
    (c.labels_of.ensures ∙ ap Some (sym c.in_ok-labels.ensures.equal)) c.prefix_of.ensures.prefix c.holders_of.ensures
