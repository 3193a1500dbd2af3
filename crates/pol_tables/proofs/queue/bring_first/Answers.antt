use Rattle.pol_tables.proofs.Queues.{turned}
use Rattle.pol_tables.proofs.queue.bring_first.Goals as goal

pub returns : goal.returns
returns g c = turned c.args.place c.args.items.now c.rotate_right.new.self c.requires c.rotate_right.ensures.after
