-- What is kept leads to the map before, and the difference of the two maps to the one after.
use Rattle.std.proofs.Common.{◌≡◌, List, refl, sym, ap, ◌∙◌}
use Rattle.pol_history.proofs.Small.{some_is_none}
use Rattle.pol_kept_map.specs.Work.{map_of}
use Rattle.pol_mapkey.specs.Entries.{Entry}
use Rattle.pol_map_changes.specs.Changes.{changed, table_of}
use Rattle.pol_map_changes.proofs.Differences.{differences_lead}
use Rattle.pol_slot_map.specs.Base.{entries_in}
use Rattle.pol_slot_map.specs.Follow.{base_of, changed_by}
use Rattle.pol_slot_map.proofs.follow.Followed.take_by.Goals as goal

pub returns-clause-went : goal.returns-clause-went
returns-clause-went c =
    let old = c.args.self.now in
    let same : entries_in c.in_ok-base.base c.apply.new.self ≡ base_of old = c.in_ok-base.ensures.same c.apply.new.self in
    record {
      follows = record {
        name = refl;
        added = refl;
        shown = refl;
        base = same;
        leads = λ led.
            ap (λ (es : List Entry). changed c.in_ok-list.list (changed old.pending (table_of es))) same
            ∙ ap (changed c.in_ok-list.list) (ap (λ o. changed_by o (changed old.pending (table_of (base_of old)))) (sym c.requires.joined) ∙ led)
            ∙ differences_lead c.in_ok-list.list (table_of (map_of old.work)) (table_of (map_of c.apply.new.self)) c.in_ok-list.ensures.list;
        few = λ led few joined. absurd (some_is_none c.in_ok-list.list joined);
      };
      kept = refl;
      work = c.in_ok-list.ensures.work;
      made = c.in_ok-list.ensures.map;
    }
