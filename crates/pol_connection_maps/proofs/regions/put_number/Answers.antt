use Rattle.pol_connection_maps.proofs.Around.{number_more}
use Rattle.pol_connection_maps.proofs.regions.put_number.Goals as goal

pub returns-in_ok-insert : goal.returns-in_ok-insert
returns-in_ok-insert c = λ rows are.
    number_more c.args.row.now c.in-Some.prefix rows c.args.numbers.now c.insert.new.self c.in-Some.is c.in_ok-insert.ensures.updates.0 are
