-- The map is shown with what was pending, and what is kept goes on from it.
use Rattle.std.proofs.Common.{◌≡◌, List, Option, Some, None, ap, subst, sym, ◌∙◌}
use Rattle.std.proofs.lemmas.Option.{same_Some}
use Rattle.pol_map_changes.specs.declared.change.Change.{Change}
use Rattle.pol_slot_map.specs.declared.follow.Followed.{Followed}
use Rattle.pol_slot_map.specs.Follow.{IsShown}
use Rattle.pol_machine.specs.declared.row.MachineRow.{MachineRow}
use Rattle.pol_machine.specs.declared.row.MachineMap.{MachineMap}
use Rattle.pol_machine.specs.Parts.{IsShownOf}
use Rattle.pol_machine.proofs.finish.publish.Goals as goal

pub returns-clause-ok : goal.returns-clause-ok
returns-clause-ok c made is =
    let same : c.in-Some.work ≡ made = same_Some c.in-Some.work made (sym c.in-Some.is ∙ is) in
    let map = c.in_ok-show-in-Some.ensures.ok in
    let on = c.published.ensures.shown in
    let row : Option MachineMap → MachineRow = λ m. record {
      added = c.args.row.now.added;
      report = Some (record { revision = c.args.taken.now.revision; commits = c.args.commits; published = Some c.args.taken.now.revision });
      map = m;
      work = Some c.published.new.self;
      full = None;
    } in
    record {
      shown = map.0;
      is = subst (λ (f : Followed). IsShownOf c.args.row.now.map f.pending c.args.taken.now map.0) same
          (subst (λ (changes : List Change). IsShownOf c.args.row.now.map changes c.args.taken.now map.0) c.in_ok-list-in-Some.ensures.list map.2);
      work = c.published.new.self;
      follows = subst (λ (f : Followed). IsShown f c.published.new.self) same (record {
        name = on.name;
        added = on.added;
        kept = on.kept;
        shown = on.shown;
        base = on.base;
        work = on.work;
        pending = on.pending;
        behind = on.behind;
      });
      row = ap row map.1;
    }
