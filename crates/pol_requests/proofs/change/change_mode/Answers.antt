use Rattle.pol_requests.proofs.DoingNames.{mode_changed}
use Rattle.pol_requests.proofs.change.change_mode.Goals as goal

pub returns-clause-done : goal.returns-clause-done
returns-clause-done c = mode_changed c.args.mode c.args.store.now c.set_mode.new.self c.set_mode.ensures.mode
