-- The finding of each text is one; there is no other.
use Rattle.std.proofs.Common.{refl, [], codes, inr, arith}
use Rattle.std.specs.Fmt.{digits}
use Rattle.pol_audit.specs.declared.packet.Audit.TheVariants.{Differs, Same}
use Rattle.pol_compare.specs.Finding.{IsTextOf}
use Rattle.pol_compare.specs.declared.finding.Finding.TheVariants.{Compared}
use Rattle.pol_mapkey.specs.declared.Word.TheVariants.{Allowed, DeniedByDefault}
use Rattle.answer_examples.proofs.Finding.{kept_one, left_differs, one, one_table, packet, right_differs, text_of_none, told_by}
use Rattle.answer_examples.proofs.findings.tables_are_compared.Goals as goal

text_of_one : IsTextOf one (codes "ingress 257 every 0/0 allow\n")
unfolding digits
text_of_one = record { ascends = one_table; kept = kept_one; written = refl }

pub returns-clause-empty : goal.returns-clause-empty
returns-clause-empty c =
    told_by _ _ _ (Compared Same) tt (inr ([], text_of_none, ([], text_of_none, λ dir id proto port small. refl))) refl refl

pub returns-clause-same : goal.returns-clause-same
returns-clause-same c =
    told_by _ _ _ (Compared Same) tt (inr (one, text_of_one, (one, text_of_one, λ dir id proto port small. refl))) refl refl

pub returns-clause-left : goal.returns-clause-left
unfolding digits
returns-clause-left c =
    told_by _ _ _ (Compared (Differs (packet Allowed DeniedByDefault))) (omega arith) (inr (one, text_of_one, ([], text_of_none, left_differs))) refl refl

pub returns-clause-right : goal.returns-clause-right
unfolding digits
returns-clause-right c =
    told_by _ _ _ (Compared (Differs (packet DeniedByDefault Allowed))) (omega arith) (inr ([], text_of_none, (one, text_of_one, right_differs))) refl refl
