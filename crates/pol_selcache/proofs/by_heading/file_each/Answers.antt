use Rattle.std.proofs.Common.{◌<◌, length, arith}
use Rattle.std.specs.Prelude.{slice_index}
use Rattle.std.proofs.lemmas.Option.{slice_get-get_or}
use Rattle.pol_selcache.proofs.Filed.{none_filed, none_small, one_more_filed, one_more_small}
use Rattle.pol_selcache.proofs.by_heading.file_each.Goals as goal

pub loop-number-init : goal.loop-number-init
loop-number-init c = (none_filed c.args.identities.now _ c.new-filing.ensures, none_small _ c.new-filing.ensures)

pub loop-number-preserved : goal.loop-number-preserved
loop-number-preserved c =
    let ns = c.args.numbers.now in
    let i = c.loop-number.number-index in
    let within : i < length ns = omega arith in
    let at = slice_get-get_or ns i 0 within in (
      one_more_filed c.args.identities.now ns i (slice_index ns i) _ _ at c.in_ok-file_number.ensures.filed c.loop-number.invariant.0,
      one_more_small c.args.identities.now ns i (slice_index ns i) _ _ at c.in_ok-file_number.ensures.filed c.loop-number.invariant.1,
    )
