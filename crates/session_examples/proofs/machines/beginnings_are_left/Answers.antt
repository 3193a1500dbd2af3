use Rattle.std.proofs.Common.{◌≡◌, List, [], ◌∷◌, ◌++◌, length, refl, sym, ap, subst, ◌∙◌, arith}
use Rattle.pol_history.specs.ExampleEvents.{add_web, at_most}
use Rattle.pol_history.specs.Machine.{machine_after, machine_from, machine_start}
use Rattle.pol_history.specs.declared.machine.Event.{Event}
use Rattle.pol_history.specs.declared.machine.Event.TheVariants as step
use Rattle.pol_machine.specs.Serial.{StandsWithin}
use Rattle.pol_machine.specs.Stands.{Stands, Stored}
use Rattle.pol_model.specs.declared.request.Request.{Request}
use Rattle.session_examples.proofs.machines.beginnings_are_left.Goals as goal

none_in_front : (xs ys : List Event) → xs ++ ys ≡ [] → xs ≡ []
none_in_front [] ys is = refl
none_in_front (x ∷ xs) ys is = absurd cc

-- at a machine that has gone a step it doesn't stand for the one before
not_both : (new : Stored) → StandsWithin (at_most 2) machine_start [] new → Stands new (machine_after (at_most 2) (step.Commit add_web ∷ [])) → ⊥
not_both new it after =
    let none = none_in_front it.done it.begins.0 it.begins.1 in
    let before : Stands new machine_start = subst (λ (done : List Event). Stands new (machine_from (at_most 2) machine_start done)) none it.stands in
    let journal : [] ≡ add_web ∷ [] = sym before.at.journal ∙ after.at.journal in
    let wrong : 0 ≡ 1 = ap (λ (requests : List Request). length requests) journal in omega (arith, wrong)

pub returns : goal.returns
returns c = record { not_begun = not_both }
