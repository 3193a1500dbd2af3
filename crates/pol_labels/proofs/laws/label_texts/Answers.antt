use Rattle.pol_labels.proofs.GrammarLemmas.{IsTextOf-from_read_label, read_label-from_IsTextOf, IsTextOf-one, read_label-label_text}
use Rattle.pol_labels.proofs.laws.label_texts.Goals as goal

pub returns : goal.returns
returns c = record {
  reading = λ text label. (IsTextOf-from_read_label text label, read_label-from_IsTextOf text label);
  one_reading = IsTextOf-one;
  printed = read_label-label_text;
}
