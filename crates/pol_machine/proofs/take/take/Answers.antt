use Rattle.pol_machine.specs.Parts.{by_slot}
use Rattle.pol_machine.specs.Rows.{by_name}
use Rattle.pol_machine.proofs.Kept.{kept_so}
use Rattle.pol_machine.proofs.take.take.Goals as goal

pub returns-in-Ok : goal.returns-in-Ok
returns-in-Ok c =
    kept_so c.args.repo.now (by_name c.args.rows.now) c.args.slot (by_slot c.args.takes.now) (by_slot c.keep.new.takes) c.in-Ok.taken
    c.in-Ok.ensures.taken c.in-Ok.ensures.map c.since-since.result c.since-since.ensures c.in-Ok.ensures.moves c.keep.result c.keep.ensures
