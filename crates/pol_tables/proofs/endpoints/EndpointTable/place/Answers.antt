use Rattle.std.proofs.Common.{◌≡◌, nat_lt, count_by, is_some, true≢false, sym, ap, ◌∙◌}
use Rattle.std.specs.List.{insert}
use Rattle.std.specs.Map.{values_of}
use Rattle.std.specs.String.{string_eq}
use Rattle.pol_model.specs.declared.row.Endpoint.{Endpoint}
use Rattle.pol_model.specs.Endpoints.{endpoint_of, free_slot}
use Rattle.pol_model.specs.Numbers.{placed_by}
use Rattle.pol_model.specs.Remote.{endpoint_at}
use Rattle.pol_tables.specs.Tables.{EndpointTable}
use Rattle.pol_tables.proofs.ByName.{new_name}
use Rattle.pol_tables.proofs.Entries.{inserted_at}
use Rattle.pol_tables.proofs.Kept.{kept_placed, values_placed}
use Rattle.pol_tables.proofs.endpoints.EndpointTable.place.Goals as goal

pub shift_insert-requires-clause-below_len : goal.shift_insert-requires-clause-below_len
shift_insert-requires-clause-below_len c there =
    let none =
    new_name c.self.inside.by_name.entries c.self.invariant.keyed c.into_string.result (c.into_string.ensures ∙ c.requires.name)
    (ap (λ (t : EndpointTable). endpoint_of c.args.endpoint.name t.list) c.self.view_is ∙ c.requires.new_name) in
    absurd (true≢false (sym there ∙ ap is_some none))

-- the endpoint stands behind those of lesser slots
stands : (c : goal.Joined-unwrap) → c.shift_insert.new.self.entries ≡ insert c.self.inside.by_name.entries (count_by (λ e. nat_lt e.slot c.args.endpoint.slot) (values_of c.self.inside.by_name.entries)) (c.into_string.result, c.args.endpoint)
stands c =
    let none =
    new_name c.self.inside.by_name.entries c.self.invariant.keyed c.into_string.result (c.into_string.ensures ∙ c.requires.name)
    (ap (λ (t : EndpointTable). endpoint_of c.args.endpoint.name t.list) c.self.view_is ∙ c.requires.new_name) in
    (rw c.unwrap-2.ensures at c.shift_insert.ensures.entries)
    ∙ inserted_at string_eq c.self.inside.by_name c.into_string.result c.args.endpoint c.place_of-place.result none
    ∙ ap (λ i. insert c.self.inside.by_name.entries i (c.into_string.result, c.args.endpoint))
    (c.place_of-place.ensures ∙ ap (count_by (λ (e : Endpoint). nat_lt e.slot c.args.endpoint.slot)) (c.as_slice.ensures ∙ c.values.ensures.rest))

pub invariant_of-self : goal.invariant_of-self
invariant_of-self c =
    let updates = rw c.unwrap.ensures at c.insert.ensures.updates in
    kept_placed _ _ _ _ c.self.invariant c.shift_insert.ensures.unique c.args.endpoint c.into_string.result (stands c)
    (c.into_string.ensures ∙ c.requires.name)
    (c.requires.slot ∙ sym (ap (λ (t : EndpointTable). free_slot t.list) c.self.view_is))
    c.requires.within
    (ap (λ (t : EndpointTable). endpoint_at c.args.endpoint.address t.list) c.self.view_is ∙ c.requires.new_address)
    updates.0

pub returns : goal.returns
returns c = record {
  list = values_placed c.self.inside.by_name.entries c.shift_insert.new.self.entries c.args.endpoint c.into_string.result (stands c)
      ∙ ap (λ (t : EndpointTable). placed_by (λ (e : Endpoint). e.slot) c.args.endpoint t.list) c.self.view_is;
}
