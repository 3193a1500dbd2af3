use Rattle.pol_history.proofs.Beginnings.{prefix_iff}
use Rattle.pol_history.proofs.Own.{commits_by-few, revision-few, same-own}
use Rattle.pol_history.proofs.laws.beginnings_have_fewer.Goals as goal

pub returns : goal.returns
returns c = record { commits = revision-few; own = commits_by-few; cut = prefix_iff; same_own = same-own }
