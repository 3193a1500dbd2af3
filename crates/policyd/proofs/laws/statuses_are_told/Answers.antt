use Rattle.std.proofs.Common.{◌≡◌, ℕ, cond, List, [], ◌∷◌, ◌++◌, codes, refl, ap, ◌∙◌, subst}
use Rattle.std.specs.Io.KnownBytes.{Appends}
use Rattle.pol_answer.specs.Text.{texts_of}
use Rattle.pol_answer.specs.declared.answer.Answer.{Answer}
use Rattle.pol_compare.specs.Finding.{IsFoundAlone, is_same}
use Rattle.pol_compare.specs.declared.finding.Finding.{Finding}
use Rattle.pol_compare.specs.declared.finding.Finding.TheVariants.{BadTable, NoDivider, Compared}
use Rattle.pol_crash_drill.specs.Drill.{IsDrill, restart_text}
use Rattle.pol_history.specs.Machine.{Machine}
use Rattle.pol_machine.specs.Serial.{machine_of}
use Rattle.pol_model.specs.declared.options.Options.{Options}
use Rattle.pol_run.specs.Run.{readings_of, status_of}
use Rattle.pol_serial_run.specs.SerialRun.{IsSerialFrom}
use Rattle.pol_streams.specs.Bytes.{AppendsPart}
use Rattle.policyd.proofs.Drills.{nothing_found}
use Rattle.policyd.proofs.laws.statuses_are_told.Goals as goal

pub returns-clause-live : goal.returns-clause-live
returns-clause-live c = λ options name old new script status live it. it.marked ∙ ap (λ b. cond b 0 1) live

pub returns-clause-nobody : goal.returns-clause-nobody
returns-clause-nobody c = λ options name old new script status live it. it.marked ∙ ap (λ b. cond b 0 1) live

alone : (finding : Finding) (status : ℕ) → IsFoundAlone [] finding → status ≡ cond (is_same finding) 0 1 → status ≡ 1
alone (BadTable line) status is marked = marked
alone NoDivider status is marked = marked
alone (Compared audit) status is marked = absurd is

pub returns-clause-no_divider : goal.returns-clause-no_divider
returns-clause-no_divider c = λ old new status it. alone it.finding status it.is_finding it.marked

-- no line is answered
none : (options : Options) (m : Machine) (answers : List Answer) → IsSerialFrom options m 1 [] answers → answers ≡ []
none options m [] serial = refl
none options m (told ∷ answers) serial = absurd serial

-- the text where the disk fails before it is open
nothing_told : (options : Options) (script text : List ℕ) (status : ℕ) (drill : IsDrill options 3 (readings_of script) text status)
    → (text ≡ codes "restart 0\n") × (status ≡ 0)
nothing_told options script text status drill =
    let answers = none options (machine_of options []) drill.answers drill.serial in
    (drill.text_is ∙ ap (λ (xs : List Answer). texts_of xs ++ restart_text 0) answers ∙ nothing_found, drill.status_is ∙ ap status_of answers)

pub returns-clause-not_opened : goal.returns-clause-not_opened
returns-clause-not_opened c = λ options old new script status it.
    let told = nothing_told options script it.text status it.drill in
    (told.1, subst (λ (xs : List ℕ). Appends old new xs) told.0 it.written)

pub returns-clause-part_not_opened : goal.returns-clause-part_not_opened
returns-clause-part_not_opened c = λ options old new script it.
    subst (λ (xs : List ℕ). AppendsPart old new xs) (nothing_told options script it.text it.status it.drill).0 it.written
