-- The finding of each text is one; there is no other.
use Rattle.std.proofs.Common.{refl, [], codes, inl, inr}
use Rattle.std.specs.Fmt.{digits}
use Rattle.pol_audit.proofs.Reading.{no_entries_are_table, no_entries_kept}
use Rattle.pol_compare.specs.Finding.{IsTextOf}
use Rattle.pol_compare.specs.declared.finding.Finding.TheVariants.{BadTable, NoDivider}
use Rattle.answer_examples.proofs.Finding.{bad_behind, kept_one, one, one_table, text_of_none, told_by}
use Rattle.answer_examples.proofs.findings.bad_lines_are_counted.Goals as goal

text_of_one : IsTextOf one (codes "ingress 257 every 0/0 allow\n")
unfolding digits
text_of_one = record { ascends = one_table; kept = kept_one; written = refl }

pub returns-clause-first : goal.returns-clause-first
unfolding digits
returns-clause-first c = told_by _ _ _ (BadTable 1) tt (bad_behind [] _ 1 no_entries_kept no_entries_are_table refl refl) refl refl

pub returns-clause-second : goal.returns-clause-second
unfolding digits
returns-clause-second c = told_by _ _ _ (BadTable 2) tt (inl (bad_behind one _ 2 kept_one one_table refl refl)) refl refl

pub returns-clause-behind : goal.returns-clause-behind
unfolding digits
returns-clause-behind c =
    told_by _ _ _ (BadTable 3) tt (inr (one, text_of_one, (1, bad_behind [] _ 1 no_entries_kept no_entries_are_table refl refl, refl))) refl refl

pub returns-clause-no_divider : goal.returns-clause-no_divider
unfolding digits
returns-clause-no_divider c = told_by _ _ _ NoDivider tt (one, text_of_one) refl refl

pub returns-clause-nothing : goal.returns-clause-nothing
unfolding digits
returns-clause-nothing c = told_by _ _ _ NoDivider tt ([], text_of_none) refl refl
