use Rattle.std.proofs.Common.{sym, subst, ap, ◌∙◌}
use Rattle.std.specs.List.{AllByRecursion}
use Rattle.std.proofs.lemmas.Result.{IfOk-weaker}
use Rattle.pol_connection_maps.specs.EndRows.{end_rows}
use Rattle.pol_connection_maps.specs.Lists.{changed_list, kept_ends}
use Rattle.pol_connection_maps.specs.Stays.{HasItsMap, HaveTheirMaps, StateMaps}
use Rattle.pol_connection_maps.proofs.Standing.{kept_stand, rows_stand}
use Rattle.pol_connection_maps.proofs.by_maps.changed_by_maps.Goals as goal

pub kept_ends-requires : goal.kept_ends-requires
kept_ends-requires c =
    let old = c.args.maps_before.now in
    let new = c.args.maps_after.now in
    record {
      maps = record { before = old; after = new };
      was = subst (AllByRecursion (HasItsMap old)) (sym (c.deref.ensures.value ∙ c.in_ok-ends_before.ensures old c.in_ok-old.ensures)) (rows_stand old (end_rows c.args.before.now c.args.regions.now));
      is = subst (AllByRecursion (HasItsMap new)) (sym (c.deref-2.ensures.value ∙ c.in_ok-ends_after.ensures new c.in_ok-new.ensures)) (rows_stand new (end_rows c.args.after.now c.args.regions.now));
      stay = c.in_ok-still.ensures old new c.in_ok-old.ensures c.in_ok-new.ensures;
    }

pub changed_list-requires : goal.changed_list-requires
changed_list-requires c =
    let old = c.args.maps_before.now in
    let new = c.args.maps_after.now in
    let maps : StateMaps = record { before = old; after = new } in
    let was = subst (AllByRecursion (HasItsMap old)) (sym (c.deref.ensures.value ∙ c.in_ok-ends_before.ensures old c.in_ok-old.ensures)) (rows_stand old (end_rows c.args.before.now c.args.regions.now)) in
    let is = subst (AllByRecursion (HasItsMap new)) (sym (c.deref-2.ensures.value ∙ c.in_ok-ends_after.ensures new c.in_ok-new.ensures)) (rows_stand new (end_rows c.args.after.now c.args.regions.now)) in
    record {
      maps = maps;
      all =
          subst (AllByRecursion (HaveTheirMaps maps)) (sym (c.deref-3.ensures.value ∙ c.in_ok-kept.ensures))
          (kept_stand maps c.args.halves c.deref.result.now c.deref-2.result.now was is);
    }

pub returns : goal.returns
returns c =
    IfOk-weaker c.changed_list.result _ _ (λ list made.
    made ∙ ap changed_list (c.deref-3.ensures.value ∙ c.in_ok-kept.ensures ∙ (λ i. kept_ends c.args.halves
    ((c.deref.ensures.value ∙ c.in_ok-ends_before.ensures c.args.maps_before.now c.in_ok-old.ensures) i)
    ((c.deref-2.ensures.value ∙ c.in_ok-ends_after.ensures c.args.maps_after.now c.in_ok-new.ensures) i))))
    c.changed_list.ensures
