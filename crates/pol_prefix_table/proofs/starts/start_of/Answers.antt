use Rattle.std.proofs.Common.{refl, length}
use Rattle.std.proofs.lemmas.Option.{slice_get_read}
use Rattle.pol_prefix_table.proofs.starts.start_of.Goals as goal

pub from_start-requires-clause-start : goal.from_start-requires-clause-start
from_start-requires-clause-start g c =
    let start = c.in-Some.start.now in
    let starts = c.args.starts.now in
    let found = c.in-Some.ensures.lookup in
    let is = slice_get_read starts (length starts) c.place_of.result start refl found.3.0 found.1 in
    (c.requires.starts.each c.place_of.result start is).0
