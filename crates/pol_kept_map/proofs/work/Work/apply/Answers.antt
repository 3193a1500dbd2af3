use Rattle.std.proofs.Common.{List, subst}
use Rattle.std.specs.Arc.{arc_value}
use Rattle.pol_filters.specs.declared.filter.Filters.{Filters}
use Rattle.pol_sets.specs.declared.sets.SetRow.{SetRow}
use Rattle.pol_kept_map.specs.Work.{IsWorkOf, WorkOf}
use Rattle.pol_kept_map.proofs.Works.{fresh}
use Rattle.pol_kept_map.proofs.work.Work.apply.Goals as goal

pub returns-clause-work : goal.returns-clause-work
returns-clause-work c =
    let own = arc_value c.in_ok-filters.filters in
    let work : WorkOf = record { filters = own; rows = c.in_ok-sets.sets } in
    subst (λ (rows : List SetRow). IsWorkOf (arc_value c.args.changes.now.filters) rows work) c.in_ok-sets.ensures.same
    (subst (λ (filters : Filters). IsWorkOf filters c.in_ok-sets.sets work) c.in_ok-filters.ensures (fresh own c.in_ok-sets.sets))
