use Rattle.std.proofs.Common.{sym, ap, subst, ◌∙◌, arith}
use Rattle.std.proofs.lemmas.List.{take_all}
use Rattle.pol_map_changes.specs.Changes.{IsAscending, whole}
use Rattle.pol_map_changes.proofs.Differences.{whole_ascends}
use Rattle.pol_map_changes.proofs.list.ChangeList.whole.Goals as goal

pub invariant_of-result : goal.invariant_of-result
invariant_of-result c =
    subst IsAscending (sym (c.loop-entry.invariant ∙ ap whole (take_all c.loop-entry.entry-index c.args.entries.now (omega arith)))) (whole_ascends c.args.entries.now c.requires.table)
