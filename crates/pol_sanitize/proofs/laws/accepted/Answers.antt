use Rattle.pol_sanitize.proofs.Formed.{accepted_formed}
use Rattle.pol_sanitize.proofs.Wholeness.{accepted_whole}
use Rattle.pol_sanitize.proofs.laws.accepted.Goals as goal

pub returns-clause-whole : goal.returns-clause-whole
returns-clause-whole c = accepted_whole

pub returns-clause-well_formed : goal.returns-clause-well_formed
returns-clause-well_formed c = accepted_formed
