use Rattle.pol_gen.proofs.Texts.{two_fields}
use Rattle.pol_gen.proofs.script.push_policy_head.Goals as goal

pub returns : goal.returns
returns c = two_fields c.push_text.result _ _ _ _ _ _ _ _ _ _ c.in_ok-push_field.ensures c.in_ok-push_field-2.ensures c.push_text.ensures c.section_text.ensures
