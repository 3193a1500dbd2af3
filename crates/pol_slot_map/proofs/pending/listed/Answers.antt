-- The list that says what clears and then the whole map say is that of both.
use Rattle.std.proofs.Common.{Some, ◌∙◌}
use Rattle.std.specs.Option.{option_or}
use Rattle.pol_kept_map.specs.Work.{map_of}
use Rattle.pol_map_changes.specs.Changes.{said}
use Rattle.pol_slot_map.specs.Renewed.{entries_of}
use Rattle.pol_slot_map.proofs.Renewing.{renewed_is, sorted_of}
use Rattle.pol_slot_map.proofs.pending.listed.Goals as goal

pub returns : goal.returns
returns c =
    renewed_is (entries_of c.args.base.now) (map_of c.args.map.now) (sorted_of c.args.base.now) (sorted_of (Some c.args.map.now))
    c.in_ok-list.list c.in_ok-list.ensures.ascending
    (λ q. c.in_ok-list.ensures.keys q ∙ (λ i. option_or (said (c.in_ok-whole.ensures.whole i) q) (said (c.in_ok-clears.ensures i) q)))
