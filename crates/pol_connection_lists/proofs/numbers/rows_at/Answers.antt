use Rattle.std.proofs.Common.{◌<◌, get_or, length, arith}
use Rattle.std.proofs.lemmas.List.{get_or_default}
use Rattle.pol_connection_lists.proofs.RowOf.{has_one, next_row}
use Rattle.pol_connection_lists.proofs.numbers.rows_at.Goals as goal

pub row_of-requires : goal.row_of-requires
row_of-requires c =
    let numbers = c.args.numbers.now in
    let i = c.loop-number.number-index in
    let within : i < length numbers = omega arith in
    has_one c.args.identities.now c.fits_together.ensures.sound numbers c.requires i within (get_or numbers i 0) (get_or_default numbers i 0 (get_or numbers i 0) within)

pub loop-number-preserved : goal.loop-number-preserved
loop-number-preserved c =
    let numbers = c.args.numbers.now in
    let i = c.loop-number.number-index in
    let within : i < length numbers = omega arith in
    next_row c.args.identities.now c.fits_together.ensures.sound numbers c.requires i within (get_or numbers i 0) (get_or_default numbers i 0 (get_or numbers i 0) within)
    c.loop-number.rows.items c.push.new.self.items c.in_ok-row_of.field-0 c.loop-number.invariant c.in_ok-row_of.ensures c.in_ok-push.ensures.items
