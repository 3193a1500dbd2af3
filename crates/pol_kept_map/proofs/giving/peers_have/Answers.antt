use Rattle.pol_sets.specs.Sets.{set_given}
use Rattle.pol_kept_map.proofs.Given.{listed_any}
use Rattle.pol_kept_map.proofs.giving.peers_have.Goals as goal

pub returns-in-Listed : goal.returns-in-Listed
returns-in-Listed c =
    listed_any (set_given c.args.rows.now) c.args.id c.args.peers.now c.in-Listed.list c.as_slice.result.now c.in-Listed.is c.as_slice.ensures c.list_has.result c.list_has.ensures
