use Rattle.std.proofs.Common.{sym, subst}
use Rattle.pol_connection_maps.specs.Again.{ServeAll}
use Rattle.pol_connection_maps.proofs.Listed.{filters_have}
use Rattle.pol_connection_maps.proofs.maps.row_map.Goals as goal

pub map_of-requires : goal.map_of-requires
map_of-requires c = record {
  old = c.requires.old;
  sets =
      subst (ServeAll c.args.sets.now) (sym c.in_ok-filters.ensures.filters) (record {
        every = filters_have c.args.sets.now c.args.rows.now.policies.now c.args.row.now.labels c.args.rows.now.mode c.args.rows.now.localhost c.requires.sets.every;
        identities = c.args.rows.now.identities.now;
        exact = c.requires.sets.exact;
      });
}
