use Rattle.std.proofs.Common.{List, ap, ◌∙◌}
use Rattle.std.proofs.lemmas.Result.{IfOk-weaker}
use Rattle.pol_model.specs.declared.row.IdentityRow.{IdentityRow}
use Rattle.pol_model.specs.After.{state_of}
use Rattle.pol_model_laws.proofs.KeepsAll.{state_keeps}
use Rattle.pol_connection_lists.specs.Names.{identities_by}
use Rattle.pol_connection_lists.proofs.ByName.{by_names}
use Rattle.pol_connection_lists.proofs.named.named_by_name.Goals as goal

pub returns : goal.returns
returns c =
    IfOk-weaker c.numbered.result _ _ (λ named told options good same.
    told ∙ ap (λ (rows : List IdentityRow). identities_by rows c.in_ok-held.held.entries) same
    ∙ by_names (state_of options c.args.journal.now) (state_keeps options c.args.journal.now good) c.in_ok-held.held (c.in_ok-held.ensures options good) c.numbered.ensures.ordered)
    c.numbered.ensures.named
