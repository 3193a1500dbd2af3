use Rattle.pol_labels.proofs.SetLaws.{IsLabelSet-members, label_set_of-made, label_set_of-none, has_duplicate_key-places, same_place-parts}
use Rattle.pol_labels.proofs.laws.label_sets.Goals as goal

pub returns : goal.returns
returns c = record {
  members = IsLabelSet-members;
  ordered = λ labels set is. (label_set_of-made labels set is).0;
  made = λ labels set is. (label_set_of-made labels set is).1;
  refused = label_set_of-none;
  duplicate = has_duplicate_key-places;
  shared = same_place-parts;
}
