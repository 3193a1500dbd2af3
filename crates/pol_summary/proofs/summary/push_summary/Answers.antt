use Rattle.pol_summary.proofs.Fields.{five_fields}
use Rattle.pol_summary.proofs.summary.push_summary.Goals as goal

pub returns : goal.returns
returns c = five_fields c.push_newline.result _ _ _ _ _ _ _ _ _ _ _ _ _ _ _ _ _ _
    c.in_ok-push_count.ensures c.in_ok-push_count-2.ensures c.in_ok-push_count-3.ensures c.in_ok-push_count-4.ensures c.in_ok-push_count-5.ensures
    c.push_newline.ensures
