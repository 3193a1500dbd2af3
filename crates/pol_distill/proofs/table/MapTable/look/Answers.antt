use Rattle.pol_mapkey.specs.Entries.{read_map}
use Rattle.pol_distill.proofs.table.MapTable.look.Goals as goal

pub returns : goal.returns
unfolding read_map
returns c = record { word = c.«of».ensures.entries _ _ c.longest-own.ensures c.longest-every.ensures }
