use Rattle.std.proofs.Common.{List, IfSome, length, ◌∙◌, ap, subst}
use Rattle.std.specs.Arc.{arc_value}
use Rattle.pol_filters.specs.declared.filter.Filters.{Filters}
use Rattle.pol_sets.specs.declared.sets.SetRow.{SetRow}
use Rattle.pol_distill.specs.Distilled.{distilled}
use Rattle.pol_entry_tally.specs.Counted.{IsTallyOf}
use Rattle.pol_entry_changes.specs.Given.{raw_of}
use Rattle.pol_kept_map.proofs.Works.{fresh}
use Rattle.pol_kept_map.proofs.work.Work.within.Goals as goal

pub invariant_of-result : goal.invariant_of-result
invariant_of-result c = record {
  have = c.requires.sets;
  counts =
      subst (λ (rows : List SetRow). IfSome c.in_ok-tally.tally (IsTallyOf (raw_of (arc_value c.args.filters) rows))) c.as_slice.ensures.rows
      (subst (λ (filters : Filters). IfSome c.in_ok-tally.tally (IsTallyOf (raw_of filters c.as_slice.result.now))) c.deref-2.ensures c.in_ok-tally.ensures);
  sized = c.in_ok-size.ensures.size ∙ ap (λ (filters : Filters). length (distilled filters c.args.sets)) c.deref.ensures;
}

pub returns-clause-work : goal.returns-clause-work
returns-clause-work c = fresh (arc_value c.args.filters) c.args.sets
