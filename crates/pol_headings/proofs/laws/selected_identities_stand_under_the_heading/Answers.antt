use Rattle.pol_headings.proofs.Selected.{selected_stands}
use Rattle.pol_headings.proofs.laws.selected_identities_stand_under_the_heading.Goals as goal

pub returns : goal.returns
returns c = selected_stands
