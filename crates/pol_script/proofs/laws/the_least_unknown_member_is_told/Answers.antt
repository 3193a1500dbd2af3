-- The laws are lemmas.
use Rattle.pol_script.proofs.LeastUnknown.{least, none, some}
use Rattle.pol_script.proofs.ToldUnknown.{told}
use Rattle.pol_script.proofs.laws.the_least_unknown_member_is_told.Goals as goal

pub returns : goal.returns
returns c = record { least = least; told = told; none = none; some = some }
