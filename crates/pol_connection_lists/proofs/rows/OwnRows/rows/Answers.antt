use Rattle.std.proofs.Common.{List, map, sym, subst, ◌∙◌}
use Rattle.std.specs.List.{AllByRecursion, IsDistinct}
use Rattle.std.specs.Str.{bytes_eq}
use Rattle.pol_model.specs.declared.row.Endpoint.{Endpoint}
use Rattle.pol_model.specs.declared.row.IdentityRow.{IdentityRow}
use Rattle.pol_model.specs.declared.row.Stamped.{Stamped}
use Rattle.pol_model.specs.Ascending.{Ascends}
use Rattle.pol_model.specs.Sizes.{IsShortPolicy}
use Rattle.pol_model_laws.proofs.KeepsAll.{state_keeps}
use Rattle.pol_connection_lists.proofs.rows.OwnRows.rows.Goals as goal

pub returns-clause-sound : goal.returns-clause-sound
returns-clause-sound c =
    let keeps = state_keeps c.args.repo.now.options c.args.repo.now.journal c.fits_together.ensures.without_faults in
    record {
      short = subst (AllByRecursion (λ (stamped : Stamped). IsShortPolicy stamped.policy)) (sym c.policies.ensures.list) c.policies.ensures.short;
      numbers = subst (λ (rows : List IdentityRow). Ascends (map (λ (row : IdentityRow). row.number) rows)) (sym (c.as_slice.ensures.value ∙ c.requires.identities)) keeps.identities.numbers;
      names = subst (λ (es : List Endpoint). IsDistinct bytes_eq (map (λ (e : Endpoint). e.name) es)) (sym c.endpoints.ensures.list) keeps.endpoint_names;
    }

pub returns-clause-keeps : goal.returns-clause-keeps
returns-clause-keeps c = state_keeps c.args.repo.now.options c.args.repo.now.journal c.fits_together.ensures.without_faults
