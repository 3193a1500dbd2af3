use Rattle.std.proofs.Common.{◌<◌, length, take, arith}
use Rattle.std.specs.Prelude.{slice_index}
use Rattle.std.proofs.lemmas.Option.{slice_get-get_or}
use Rattle.pol_selcache.specs.Tried.{HasAllAt}
use Rattle.pol_selcache.proofs.Untried.{all_kept, every_more}
use Rattle.pol_selcache.proofs.tried.add_numbers.Goals as goal

pub loop-number-preserved : goal.loop-number-preserved
loop-number-preserved c =
    let rows = c.args.identities.now in
    let ns = c.args.numbers.now in
    let i = c.loop-number.number-index in
    let new = c.add_number.new.headings in
    let within : i < length ns = omega arith in (
      every_more (HasAllAt rows new) ns i (slice_index ns i) (slice_get-get_or ns i 0 within)
          (all_kept rows c.loop-number.headings new c.in_ok-add_number.ensures.kept (take i ns) c.loop-number.invariant.0)
          c.in_ok-add_number.ensures.all,
      λ heading there. c.in_ok-add_number.ensures.kept heading (c.loop-number.invariant.1 heading there),
    )
