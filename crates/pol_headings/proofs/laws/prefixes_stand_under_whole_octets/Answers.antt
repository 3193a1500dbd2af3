use Rattle.pol_addr.proofs.Containment.{covers_refl}
use Rattle.pol_headings.proofs.Selected.{covers_octets}
use Rattle.pol_headings.proofs.laws.prefixes_stand_under_whole_octets.Goals as goal

pub returns-clause-around : goal.returns-clause-around
returns-clause-around c = λ p valid. covers_octets p p (covers_refl p valid)
