use Rattle.pol_model_laws.proofs.Parts.{part-itself, part-number, part-trans}
use Rattle.pol_model_laws.proofs.FoundRows.{part-inward, part-outward}
use Rattle.pol_model_laws.proofs.row_laws.parts_have_rows.Goals as goal

pub returns : goal.returns
returns c = record {
  outward = part-outward;
  inward = part-inward;
  number = λ rows others number part. part-number rows others part number;
  itself = part-itself;
  further = part-trans;
}
