use Rattle.pol_audit.proofs.Firsts.{audit_at}
use Rattle.pol_audit.proofs.compare.audit.Goals as goal

pub returns-clause-audit : goal.returns-clause-audit
returns-clause-audit g c =
    audit_at c.args.left.now c.args.right.now c.as_slice.result.now c.as_slice-2.result.now c.in_ok-first.first c.audit_from.result
    c.as_slice.ensures.entries c.as_slice-2.ensures.entries c.audit_from.ensures c.in_ok-first.ensures.first
