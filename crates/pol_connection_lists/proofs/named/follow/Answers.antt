use Rattle.std.proofs.Common.{◌≡◌, List, ℕ, sym, ap, subst, ◌∙◌}
use Rattle.pol_model.specs.declared.request.Request.{Request}
use Rattle.pol_model.specs.declared.request.Request.TheVariants.{AddIdentity, RemoveIdentity}
use Rattle.pol_model.specs.After.{after}
use Rattle.pol_model_laws.specs.WithoutFaults.{MayCommit}
use Rattle.pol_connection_lists.specs.Names.{AreLabelsIn}
use Rattle.pol_connection_lists.proofs.Held.{drop_name, put_name}
use Rattle.pol_connection_lists.proofs.Names.{no_name, others}
use Rattle.pol_connection_lists.proofs.named.follow.Goals as goal

pub returns-in_ok-insert-in-AddIdentity : goal.returns-in_ok-insert-in-AddIdentity
returns-in_ok-insert-in-AddIdentity c = λ s it may are.
    let key = c.in_ok-copy-in-AddIdentity.field-0 in
    let labels = c.in-AddIdentity.labels in
    let is : c.args.request.now ≡ AddIdentity key labels = c.in-AddIdentity.is ∙ ap (λ (n : List ℕ). AddIdentity n labels) (sym c.in_ok-copy-in-AddIdentity.ensures.equal) in
    subst (λ (r : Request). AreLabelsIn (after s r) c.insert.new.self) (sym is)
    (put_name s key _ c.args.held.now c.insert.new.self c.in_ok-insert-in-AddIdentity.ensures.updates.0 it (subst (MayCommit s) is may) are)

pub returns-in-RemoveIdentity : goal.returns-in-RemoveIdentity
returns-in-RemoveIdentity c = λ s it may are.
    let n = c.in-RemoveIdentity.name in
    let is : c.args.request.now ≡ RemoveIdentity n = c.in-RemoveIdentity.is in
    subst (λ (r : Request). AreLabelsIn (after s r) c.remove.new.self) (sym is)
    (drop_name s n c.args.held.now c.remove.new.self c.remove.ensures.updates.0 it (subst (MayCommit s) is may) are)

pub returns-in_default : goal.returns-in_default
returns-in_default c = λ s it may are name.
    are name ∙ sym (others s c.args.request.now it may (no_name c.args.request.now c.in_default.not-AddIdentity c.in_default.not-RemoveIdentity) name)
