use Rattle.pol_gen.proofs.Texts.{three_fields}
use Rattle.pol_gen.proofs.script.push_verdict_text.Goals as goal

pub returns : goal.returns
returns c = three_fields c.push_text.result _ _ _ _ _ _ _ _ _ _ _ _ c.in_ok-push_field.ensures c.in_ok-push_field-2.ensures c.in_ok-push_field-3.ensures c.push_text.ensures
