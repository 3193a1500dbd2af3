use Rattle.std.proofs.Common.{sym, subst}
use Rattle.std.specs.Arc.{arc_value}
use Rattle.pol_filters.specs.declared.filter.Filters.{Filters}
use Rattle.pol_kept_map.specs.Applies.{NamesFilters, PlacesDiffer}
use Rattle.engine_bench.specs.Turns.{eleven, ten}
use Rattle.engine_bench.proofs.Numbered.{names, places}
use Rattle.engine_bench.proofs.Turning.{arrives, tells}
use Rattle.engine_bench.proofs.delta.turns.come.Goals as goal

pub apply-requires : goal.apply-requires
apply-requires c =
    let to = arc_value c.args.changes.now.filters in
    let at = c.requires.at in
    let numbered = c.requires.numbered in
    record {
      sets = c.requires.have;
      before = subst PlacesDiffer (sym at.same) (places to numbered);
      after = places to numbered;
      named = subst (λ (filters : Filters). NamesFilters filters to) (sym at.same) (names to numbered);
      moves = tells ten eleven c.args.count c.args.changes.now c.requires.turns to to c.requires.have (names to numbered) c.args.work.now at numbered.egress numbered.egress;
    }

pub returns : goal.returns
returns c =
    arrives c.args.changes.now.sets eleven c.requires.turns.rows (arc_value c.args.changes.now.filters) c.apply.new.self c.requires.have c.in_ok-list.ensures.work
