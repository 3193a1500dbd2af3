-- A policy is read again from the text of the document that writes it.
use Rattle.std.proofs.Common.{◌≡◌, ◌≤◌, List, [], ◌∷◌, None, Some, option_map, Ok, ap, ◌∙◌, arith}
use Rattle.std.specs.List.{AllByRecursion}
use Rattle.serde_json.specs.Data.{Data, depth}
use Rattle.serde_json.specs.Read.{max_depth, read}
use Rattle.serde_json.specs.Written.{compact_text}
use Rattle.document_laws.proofs.Policies.{policies_again, listed_policies_again}
use Rattle.document_laws.proofs.TextRead.{text_again}
use Rattle.document_laws.proofs.Writable.{IsWritable, policy_writable}
use Rattle.document_laws.specs.Kept.{IsKept, IsKeptRule}
use Rattle.document_laws.specs.WellFormed.{IsWellFormed}
use Rattle.document_laws.specs.Written.{document_of, listed_document_of, ruled_document}
use Rattle.pol_json.specs.Document.{read_document}
use Rattle.pol_rule.specs.declared.policy.PolicyKey.{PolicyKey}
use Rattle.pol_rule.specs.declared.raw.RawPolicy.{RawPolicy}
use Rattle.pol_rule.specs.declared.raw.RawRule.{RawRule}

pub document_again : (d : Data) → IsWritable 10 d → read (compact_text d) ≡ Some d
document_again d written =
    let shallow : depth d ≤ max_depth = omega (arith, written.shallow) in
    text_again d written.plain written.ascend shallow

ruled_writable : (key : PolicyKey) (rules : List RawRule) → AllByRecursion IsKeptRule rules → IsWritable 10 (ruled_document key rules)
ruled_writable key [] kept = policy_writable key None [] tt tt
ruled_writable key (rule ∷ others) kept = policy_writable key (Some rule) others kept.0 kept.1

pub printed_policies_again : (policy : RawPolicy) → IsWellFormed policy → IsKept policy
    → option_map read_document (read (compact_text (document_of policy))) ≡ Some (Ok policy)
printed_policies_again policy well kept =
    ap (option_map read_document) (document_again (document_of policy) (ruled_writable policy.key policy.rules kept)) ∙ ap Some (policies_again policy well)

pub listed_printed_policies_again : (policy : RawPolicy) → IsWellFormed policy → IsKept policy
    → option_map read_document (read (compact_text (listed_document_of policy))) ≡ Some (Ok policy)
listed_printed_policies_again policy well kept =
    ap (option_map read_document) (document_again (listed_document_of policy) (policy_writable policy.key None policy.rules tt kept))
    ∙ ap Some (listed_policies_again policy well)
