-- The changes between the two maps lead from the one to the other.
use Rattle.std.proofs.Common.{refl}
use Rattle.pol_slot_map.specs.Follow.{base_of}
use Rattle.pol_slot_map.proofs.Renewing.{between_few, between_leads}
use Rattle.pol_slot_map.proofs.follow.Followed.unlist.Goals as goal

pub returns-clause-stays : goal.returns-clause-stays
returns-clause-stays c =
    let old = c.args.self.now in
    record {
      follows = record {
        name = refl;
        added = refl;
        shown = refl;
        base = refl;
        leads = λ led. between_leads c.in_ok-base.base c.in_ok-map.map old.work (base_of old) c.between.result c.between.ensures c.in_ok-base.ensures c.in_ok-map.ensures.same;
        few = λ led few joined.
            between_few c.in_ok-base.base c.in_ok-map.map old.work (base_of old) c.between.result c.between.ensures c.in_ok-base.ensures c.in_ok-map.ensures.same;
      };
      kept = refl;
      work = refl;
    }
