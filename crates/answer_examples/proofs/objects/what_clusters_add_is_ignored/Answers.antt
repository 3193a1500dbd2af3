-- Each script is the text of the value, which computes.
use Rattle.std.proofs.Common.{refl, [], ◌∷◌}
use Rattle.json.specs.Print.{escape_byte}
use Rattle.std.specs.Fmt.{digits}
use Rattle.answer_examples.proofs.KubectlLines.{cilium_line, network_line}
use Rattle.answer_examples.proofs.Scripts.{answers_by, script_read}
use Rattle.answer_examples.proofs.objects.what_clusters_add_is_ignored.Goals as goal

pub returns-clause-network : goal.returns-clause-network
unfolding digits escape_byte
returns-clause-network c = script_read (network_line ∷ []) _ refl refl

pub returns-clause-cilium : goal.returns-clause-cilium
unfolding digits escape_byte
returns-clause-cilium c = script_read (cilium_line ∷ []) _ refl refl

pub returns-clause-network_answer : goal.returns-clause-network_answer
unfolding digits escape_byte
returns-clause-network_answer c = answers_by (network_line ∷ []) _ _ refl refl refl

pub returns-clause-cilium_answer : goal.returns-clause-cilium_answer
unfolding digits escape_byte
returns-clause-cilium_answer c = answers_by (cilium_line ∷ []) _ _ refl refl refl
