use Rattle.std.proofs.Common.{is_some, sym, ap, ◌∙◌}
use Rattle.pol_ident.proofs.Looks.{has_row-mapped, mapped-some}
use Rattle.pol_ident.proofs.identities.Identities.held.Goals as goal

pub returns : goal.returns
returns c = record {
  held = c.is_some.ensures ∙ sym (mapped-some _ c.look.result) ∙ ap is_some c.look.ensures.labels ∙ has_row-mapped (λ row. row.labels) c.args.number c.args.self.now;
}
