use Rattle.pol_connection_maps.proofs.Serving.{made_at}
use Rattle.pol_connection_maps.proofs.maps.number_maps.Goals as goal

pub row_map-requires : goal.row_map-requires
row_map-requires c = record {
  old = made_at c.args.before.now c.args.old.now c.row-item.result.number c.map_at-own.result c.requires.old (c.map_at-own.ensures c.args.old.now c.in_ok-table.ensures);
  sound = c.requires.sound;
  sets = c.requires.sets;
}
