use Rattle.std.proofs.Common.{map, refl, sym, subst, ap, ◌∙◌}
use Rattle.std.specs.List.{AllByRecursion}
use Rattle.std.proofs.lemmas.Result.{IfOk-weaker}
use Rattle.pol_connection_maps.specs.Again.{IsMadeOf}
use Rattle.pol_connection_maps.specs.EndRows.{end_rows}
use Rattle.pol_connection_maps.specs.Lists.{kept_ends}
use Rattle.pol_connection_maps.specs.Seen.{seen_row}
use Rattle.pol_connection_maps.specs.Sets.{AreSetsOf, peers_of}
use Rattle.pol_connection_maps.proofs.Serving.{maps_made}
use Rattle.pol_connection_maps.proofs.Whole.{change_is}
use Rattle.pol_connection_maps.proofs.lists.changed_connections.Goals as goal

pub number_maps-requires : goal.number_maps-requires
number_maps-requires c = record {
  old = tt;
  sound = c.requires.before;
  sets = subst (AreSetsOf c.args.before.now.identities.now (peers_of c.args.before.now.policies.now)) (sym (c.in_ok-peers_before.ensures ∙ c.as_slice.ensures.rows)) c.in_ok-sets_before.ensures;
}

pub number_maps-requires-2 : goal.number_maps-requires-2
number_maps-requires-2 c = record {
  old = subst (AllByRecursion (IsMadeOf c.in_ok-peers_before.peers_before)) (sym (c.deref.ensures.value ∙ c.in_ok-maps_before.ensures)) (maps_made c.args.before.now c.in_ok-peers_before.peers_before);
  sound = c.requires.after;
  sets = subst (AreSetsOf c.args.after.now.identities.now (peers_of c.args.after.now.policies.now)) (sym (c.in_ok-peers_after.ensures ∙ c.as_slice-2.ensures.rows)) c.in_ok-sets_after.ensures;
}

pub returns : goal.returns
returns c =
    let before = c.args.before.now in
    let after = c.args.after.now in
    let regions = c.deref-2.result.now in
    let was = map (seen_row c.deref-3.result.now) (end_rows before regions) in
    let now = map (seen_row c.deref-4.result.now) (end_rows after regions) in
    let sets_before = subst (AreSetsOf before.identities.now (peers_of before.policies.now)) (sym (c.in_ok-peers_before.ensures ∙ c.as_slice.ensures.rows)) c.in_ok-sets_before.ensures in
    let sets_after = subst (AreSetsOf after.identities.now (peers_of after.policies.now)) (sym (c.in_ok-peers_after.ensures ∙ c.as_slice-2.ensures.rows)) c.in_ok-sets_after.ensures in
    IfOk-weaker c.changed_by_maps.result _ _ (λ list made.
    change_is c.args.halves before after regions was now (kept_ends c.args.halves was now) list.items (c.deref-2.ensures.value ∙ c.in_ok-regions.ensures)
    (record { sets = c.in_ok-peers_before.peers_before; are = sets_before; is = ap (λ ms. map (seen_row ms) (end_rows before regions)) (c.deref-3.ensures.value ∙ c.in_ok-maps_before.ensures) })
    (record { sets = c.in_ok-peers_after.peers_after; are = sets_after; is = ap (λ ms. map (seen_row ms) (end_rows after regions)) (c.deref-4.ensures.value ∙ c.in_ok-maps_after.ensures) })
    refl made)
    c.changed_by_maps.ensures
