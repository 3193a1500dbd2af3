use Rattle.std.proofs.Common.{refl}
use Rattle.std.specs.Net.Text.{hex, hex_groups_text}
use Rattle.pol_addr.proofs.examples.printed_texts.Goals as goal

pub returns-clause-small : goal.returns-clause-small
unfolding hex hex_groups_text
returns-clause-small c = refl

pub returns-clause-first_run : goal.returns-clause-first_run
unfolding hex hex_groups_text
returns-clause-first_run c = refl

pub returns-clause-longest_run : goal.returns-clause-longest_run
unfolding hex hex_groups_text
returns-clause-longest_run c = refl

pub returns-clause-single : goal.returns-clause-single
unfolding hex hex_groups_text
returns-clause-single c = refl

pub returns-clause-mapped : goal.returns-clause-mapped
unfolding hex hex_groups_text
returns-clause-mapped c = refl

pub returns-clause-none : goal.returns-clause-none
unfolding hex hex_groups_text
returns-clause-none c = refl
