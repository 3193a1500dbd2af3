-- The changes between the map that was published last and the new one lead from the one to the other.
use Rattle.std.proofs.Common.{List, refl, subst, ◌∙◌}
use Rattle.std.specs.Arc.{arc_value}
use Rattle.pol_sets.specs.declared.sets.SetRow.{SetRow}
use Rattle.pol_filters.specs.declared.filter.Filters.{Filters}
use Rattle.pol_distill.specs.Distilled.{distilled}
use Rattle.pol_kept_map.specs.Work.{IsWorkOf}
use Rattle.pol_slot_map.specs.Base.{entries_in}
use Rattle.pol_slot_map.proofs.Renewing.{between_few, between_leads}
use Rattle.pol_slot_map.proofs.follow.Followed.take_anew.Goals as goal

pub returns-clause-went : goal.returns-clause-went
returns-clause-went c =
    let old = c.args.self.now in
    let work = c.in_ok-work.work in
    let entries = entries_in c.in_ok-base.base work in
    record {
      follows = record {
        name = refl;
        added = refl;
        shown = refl;
        base = c.in_ok-base.ensures.same work;
        leads = λ led. between_leads c.in_ok-before.before c.in_ok-map.map work entries c.between.result c.between.ensures c.in_ok-before.ensures c.in_ok-map.ensures.same;
        few = λ led few joined.
            between_few c.in_ok-before.before c.in_ok-map.map work entries c.between.result c.between.ensures c.in_ok-before.ensures c.in_ok-map.ensures.same;
      };
      kept = refl;
      work =
          subst (λ (rows : List SetRow). IsWorkOf (arc_value c.args.changes.now.filters) rows work) c.in_ok-sets.ensures.same
          (subst (λ (filters : Filters). IsWorkOf filters c.in_ok-sets.sets work) c.in_ok-filters.ensures c.in_ok-work.ensures.work);
      made = c.in_ok-work.ensures.map ∙ (λ i. distilled (c.in_ok-filters.ensures i) (c.in_ok-sets.ensures.same i));
    }
