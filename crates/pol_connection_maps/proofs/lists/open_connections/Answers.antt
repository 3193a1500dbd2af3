use Rattle.std.proofs.Common.{map, sym, subst, ap, ◌∙◌}
use Rattle.std.proofs.lemmas.Result.{IfOk-weaker}
use Rattle.pol_connection_maps.specs.EndRows.{end_rows}
use Rattle.pol_connection_maps.specs.Seen.{seen_row}
use Rattle.pol_connection_maps.specs.Sets.{AreSetsOf, peers_of}
use Rattle.pol_connection_maps.proofs.Whole.{open_is}
use Rattle.pol_connection_maps.proofs.lists.open_connections.Goals as goal

pub number_maps-requires : goal.number_maps-requires
number_maps-requires c = record {
  old = tt;
  sound = c.requires;
  sets = subst (AreSetsOf c.args.rows.now.identities.now (peers_of c.args.rows.now.policies.now)) (sym (c.in_ok-index.ensures ∙ c.as_slice.ensures.rows)) c.in_ok-sets.ensures;
}

pub returns : goal.returns
returns c =
    let rows = c.args.rows.now in
    let regions = c.deref.result.now in
    let sets = subst (AreSetsOf rows.identities.now (peers_of rows.policies.now)) (sym (c.in_ok-index.ensures ∙ c.as_slice.ensures.rows)) c.in_ok-sets.ensures in
    IfOk-weaker c.open_by_maps.result _ _ (λ list made.
    open_is rows regions (map (seen_row c.deref-2.result.now) (end_rows rows regions)) list.items (c.deref.ensures.value ∙ c.in_ok-regions.ensures)
    (record { sets = c.in_ok-index.index; are = sets; is = ap (λ ms. map (seen_row ms) (end_rows rows regions)) (c.deref-2.ensures.value ∙ c.in_ok-maps.ensures) }) made)
    c.open_by_maps.ensures
