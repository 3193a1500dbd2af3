use Rattle.std.proofs.Common.{List, ℕ, ap, subst, ◌∙◌}
use Rattle.pol_model.specs.Endpoints.{without_named}
use Rattle.pol_model_laws.specs.Holding.{has_row}
use Rattle.pol_tables.specs.Tables.{SameNumbers}
use Rattle.pol_store.specs.Store.{Stored}
use Rattle.pol_requests.proofs.DoingNames.{name_gone, name_may_go}
use Rattle.pol_requests.proofs.identities.accept_no_identity.Goals as goal

pub release-requires : goal.release-requires
release-requires c =
    let may = name_may_go c.args.name c.args.number c.args.store.now c.requires.may in
    record {
      held = ap (λ (stored : Stored). has_row c.args.number stored.state.identities) c.drop_name.ensures.gone ∙ may.0;
      not_local = may.1;
    }

pub returns-clause-done : goal.returns-clause-done
returns-clause-done c =
    let old = c.args.store.now in
    let mid = c.drop_name.new.self in
    let same = subst (λ (name : List ℕ). SameNumbers mid.state.named (without_named name old.state.named)) c.as_str.ensures c.drop_name.ensures.numbers in
    name_gone c.args.name c.args.number old mid c.release.new.self c.drop_name.ensures.gone same c.release.ensures.released
