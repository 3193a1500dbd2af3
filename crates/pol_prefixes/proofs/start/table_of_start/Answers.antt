use Rattle.pol_prefixes.proofs.Tables.{table_at_start}
use Rattle.pol_prefixes.proofs.start.table_of_start.Goals as goal

pub returns : goal.returns
returns c = rw (c.in_ok-insert-2.ensures.ok, c.in_ok-insert.ensures.ok, c.new-table.ensures, c.world.ensures, c.world-2.ensures, c.world_identity.ensures.identity, c.world_identity-2.ensures.identity) table_at_start
