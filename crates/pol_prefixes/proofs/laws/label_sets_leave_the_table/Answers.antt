use Rattle.std.proofs.Common.{sym, ◌∙◌}
use Rattle.pol_prefixes.proofs.Numbers.{number_of_labelled, number_of_left}
use Rattle.pol_prefixes.proofs.laws.label_sets_leave_the_table.Goals as goal

pub returns : goal.returns
returns c = record {
  held = λ labels rows table is own. is own ∙ sym (number_of_labelled labels own rows);
  released = λ number rows table keeps cluster is own. is own ∙ sym (number_of_left rows keeps number cluster own);
}
