use Rattle.std.proofs.Common.{refl}
use Rattle.pol_labels.specs.declared.requirement.Operator.TheVariants.{NoneOf, Absent}
use Rattle.pol_labels.proofs.MatchLemmas.{meets-same_key, asked-no_key}
use Rattle.pol_labels.proofs.laws.requirements.Goals as goal

pub returns : goal.returns
returns c = record {
  none_of = λ requirement labels. refl;
  absent = λ requirement labels. refl;
  none_of_no_key = λ requirement labels none. asked-no_key NoneOf requirement labels none;
  absent_no_key = λ requirement labels none. asked-no_key Absent requirement labels none;
  same_key = meets-same_key;
}
