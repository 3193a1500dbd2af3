use Rattle.policyd.proofs.Tables.{fits_few}
use Rattle.policyd.proofs.audit.finding_of.Goals as goal

pub compare-requires : goal.compare-requires
compare-requires c = fits_few c.args.text.now c.requires
