use Rattle.pol_history.proofs.Looks.{views_grow, views_join}
use Rattle.pol_history.proofs.Meetings.{whole-after}
use Rattle.pol_history.proofs.laws.views_join.Goals as goal

pub returns : goal.returns
returns c = record { join = views_join; grow = views_grow; whole = whole-after }
