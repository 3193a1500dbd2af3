-- Clears of changes in key order are in key order.
use Rattle.std.proofs.Common.{List, map, sym, ap, subst, ◌∙◌}
use Rattle.pol_map_changes.specs.Changes.{IsAscending}
use Rattle.pol_map_changes.specs.declared.change.Change.{Change}
use Rattle.pol_slot_map.specs.Renewed.{clear_of}
use Rattle.pol_slot_map.proofs.Renewing.{clears_ascend}
use Rattle.pol_slot_map.proofs.pending.clears_of.Goals as goal

pub from_vec-requires : goal.from_vec-requires
from_vec-requires c = record {
  ascending =
      subst (λ (changes : List Change). IsAscending changes)
      (sym (c.in_ok-clears.ensures ∙ ap (λ (changes : List Change). map clear_of changes) c.as_slice-changes.ensures.changes))
      (clears_ascend c.args.list.now c.as_slice-changes.ensures.ascending);
}
