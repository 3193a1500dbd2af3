use Rattle.std.proofs.Common.{sym, subst}
use Rattle.std.specs.Arc.{arc_value}
use Rattle.pol_filters.specs.declared.filter.Filters.{Filters}
use Rattle.pol_kept_map.specs.Applies.{NamesFilters, PlacesDiffer}
use Rattle.engine_bench.specs.Turns.{ten}
use Rattle.engine_bench.proofs.Numbered.{names_more, places}
use Rattle.engine_bench.proofs.Turning.{arrives, tells}
use Rattle.engine_bench.proofs.delta.turns.widen.Goals as goal

pub apply-requires : goal.apply-requires
apply-requires c =
    let from = arc_value c.args.few.now.filters in
    let to = arc_value c.args.many.now.filters in
    let at = c.requires.at in
    let named = names_more (arc_value c.args.few.now.filters) (arc_value c.args.many.now.filters) c.requires.few c.requires.many c.requires.extends in
    record {
      sets = c.requires.have;
      before = subst PlacesDiffer (sym at.same) (places from c.requires.few);
      after = places to c.requires.many;
      named = subst (λ (filters : Filters). NamesFilters filters to) (sym at.same) named;
      moves = tells ten ten c.args.count c.args.many.now c.requires.turns from to c.requires.have named c.args.work.now at c.requires.few.egress c.requires.many.egress;
    }

pub returns : goal.returns
returns c =
    arrives c.args.many.now.sets ten c.requires.turns.rows (arc_value c.args.many.now.filters) c.apply.new.self c.requires.have c.in_ok-list.ensures.work
