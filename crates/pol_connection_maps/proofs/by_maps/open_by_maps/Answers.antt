use Rattle.std.proofs.Common.{sym, subst, ap, ◌∙◌}
use Rattle.std.specs.List.{AllByRecursion}
use Rattle.std.proofs.lemmas.Result.{IfOk-weaker}
use Rattle.pol_connection_maps.specs.EndRows.{end_rows}
use Rattle.pol_connection_maps.specs.Lists.{open_list}
use Rattle.pol_connection_maps.specs.Stays.{HasItsMap}
use Rattle.pol_connection_maps.proofs.Standing.{rows_stand}
use Rattle.pol_connection_maps.proofs.by_maps.open_by_maps.Goals as goal

pub open_list-requires : goal.open_list-requires
open_list-requires c =
    let maps = c.args.maps.now in
    record {
      maps = record { before = maps; after = maps };
      all = subst (AllByRecursion (HasItsMap maps)) (sym (c.deref.ensures.value ∙ c.in_ok-ends.ensures maps c.in_ok-table.ensures)) (rows_stand maps (end_rows c.args.rows.now c.args.regions.now));
    }

pub returns : goal.returns
returns c =
    IfOk-weaker c.open_list.result _ _ (λ list made. made ∙ ap open_list (c.deref.ensures.value ∙ c.in_ok-ends.ensures c.args.maps.now c.in_ok-table.ensures)) c.open_list.ensures
