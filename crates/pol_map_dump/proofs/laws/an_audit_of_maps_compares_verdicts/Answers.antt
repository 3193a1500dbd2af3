use Rattle.pol_audit.proofs.Audited.{alike_has_none}
use Rattle.pol_map_dump.proofs.Comparing.{differ, same}
use Rattle.pol_map_dump.proofs.laws.an_audit_of_maps_compares_verdicts.Goals as goal

pub returns : goal.returns
returns c = record {
  same = same;
  differs = differ;
  no_difference = λ left right list alike is. (alike_has_none left right list is).0 alike;
}
