-- What is left makes the same of the base's table, and is few where it leads from there to the work's map.
use Rattle.std.proofs.Common.{◌≡◌, List, sym, ◌∙◌, subst}
use Rattle.pol_mapkey.specs.Entries.{Entry}
use Rattle.pol_map_changes.specs.declared.change.Change.{Change}
use Rattle.pol_map_changes.specs.Changes.{AreFew, HasOnlyKeysOf, changed, table_of}
use Rattle.pol_map_changes.proofs.LeavingOut.{named_whole}
use Rattle.pol_slot_map.specs.Base.{entries_in}
use Rattle.pol_slot_map.proofs.Cutting.{left_few}
use Rattle.pol_slot_map.proofs.base.cut.Goals as goal

pub returns-clause-leads : goal.returns-clause-leads
returns-clause-leads c =
    let base : List Entry = entries_in c.args.base.now c.args.work.now in
    c.leave_out_clears.ensures.leads (table_of base)
    (subst (λ (changes : List Change). HasOnlyKeysOf changes (table_of base)) (sym c.in_ok-whole.ensures) (named_whole base))

pub returns-clause-few : goal.returns-clause-few
returns-clause-few c = λ leads.
    let base : List Entry = entries_in c.args.base.now c.args.work.now in
    let same : changed c.leave_out_clears.new.self (table_of base) ≡ changed c.args.changes.now (table_of base) =
    c.leave_out_clears.ensures.leads (table_of base)
    (subst (λ (changes : List Change). HasOnlyKeysOf changes (table_of base)) (sym c.in_ok-whole.ensures) (named_whole base)) in
    left_few base c.args.work.now c.leave_out_clears.new.self c.leave_out_clears.ensures.ascending
    (subst (λ (changes : List Change). AreFew changes c.leave_out_clears.new.self) c.in_ok-whole.ensures c.leave_out_clears.ensures.few)
    (same ∙ leads)
