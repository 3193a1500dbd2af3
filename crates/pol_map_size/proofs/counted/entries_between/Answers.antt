use Rattle.std.proofs.Common.{◌≡◌, true, false, rules}
use Rattle.pol_map_size.specs.Part.{is_between}
use Rattle.pol_map_size.proofs.Sizes.{one_more_place, same_at_place}
use Rattle.pol_map_size.proofs.counted.entries_between.Goals.{then-is_between, else-is_between}
use Rattle.pol_map_size.proofs.counted.entries_between.Goals as goal

pub loop-place-preserved : goal.loop-place-preserved
loop-place-preserved c =
    let more = one_more_place c.args.from c.args.end c.args.table.now c.loop-place.place c.at.result c.at.ensures in
    let same = same_at_place c.args.from c.args.end c.args.table.now c.loop-place.place c.at.result c.at.ensures in
    elim c.if-is_between.branch [
      | then-is_between w ↦
          (let inside : is_between c.args.from c.args.end c.at.result.0.id ≡ true = search rules in
          cc (more inside, w.count-is, c.loop-place.invariant))
      | else-is_between w ↦
          (let outside : is_between c.args.from c.args.end c.at.result.0.id ≡ false = search rules in
          cc (same outside, w.count-is, c.loop-place.invariant))
    ]
