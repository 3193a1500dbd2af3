-- A question that commits nothing leaves the requests as they are.
use Rattle.std.proofs.Common.{◌≡◌, true, false, List, [], ◌∷◌, ◌++◌, Result, Ok, Err, refl, sym, ◌∙◌, subst}
use Rattle.std.specs.List.{flat_map}
use Rattle.pol_history.specs.declared.machine.Event.{Event}
use Rattle.pol_history.specs.Commits.{commits_in, state_now}
use Rattle.pol_history.specs.Machine.{Machine, machine_from, step_of}
use Rattle.pol_kept.specs.Keeps.{asks_other, is_other, requests_in}
use Rattle.pol_kept.proofs.Others.{commits_same}
use Rattle.pol_machine.specs.Serial.{LedTo, events_of, turn_of}
use Rattle.pol_machine.specs.Stands.{Stands, StandsForSome, Stored, kept_of}
use Rattle.pol_machine.specs.declared.asked.Asked.{Asked}
use Rattle.pol_machine.specs.declared.asked.Asked.TheVariants.{Commit, Sync, Look, Explain}
use Rattle.pol_model.specs.declared.options.Options.{Options}
use Rattle.pol_model.specs.declared.row.Endpoint.{Endpoint}

-- events that commit nothing
abbrev pub AreOther : List Event → Type 0
AreOther [] = Unit {0}
AreOther (event ∷ events) = (is_other event ≡ true) × AreOther events

others_before : (first later : List Event) → AreOther (first ++ later) → AreOther first
others_before [] later others = tt
others_before (event ∷ first) later others = (others.0, others_before first later others.1)

turns_other : (endpoints : List Endpoint) → AreOther (flat_map (λ (e : Endpoint). turn_of e.slot) endpoints)
turns_other [] = tt
turns_other (e ∷ endpoints) = (refl, (refl, turns_other endpoints))

pub events_same : (options : Options) (m : Machine) (events : List Event) → AreOther events → commits_in (machine_from options m events).history ≡ commits_in m.history
events_same options m [] others = refl
events_same options m (event ∷ events) others = events_same options (step_of options m event).1 events others.1 ∙ commits_same options m event others.0

asked_other : (options : Options) (m : Machine) (asked : Asked) → asks_other asked ≡ true → AreOther (events_of options m asked)
asked_other options m (Commit request) other = absurd (let no : false ≡ true = other in cc)
asked_other options m Sync other = turns_other (state_now options m.history).endpoints
asked_other options m (Look query) other = (refl, tt)
asked_other options m (Explain query) other = tt

-- events that are led to
pub led_same : {A E : Type 0} (options : Options) (m : Machine) (events : List Event) (old new : Stored) (result : Result A E) → AreOther events → Stands old m
    → LedTo options m events new result → (requests_in new ≡ requests_in old) × StandsForSome (kept_of new)
led_same options m events old new (Ok done) others stands led =
    (led.at.journal ∙ events_same options m events others ∙ sym stands.at.journal, record { machine = machine_from options m events; stands = led })
led_same options m events old new (Err error) others stands led =
    let some : AreOther led.done = others_before led.done led.begins.0 (subst AreOther (sym led.begins.1) others) in
    (led.stands.at.journal ∙ events_same options m led.done some ∙ sym stands.at.journal, record { machine = machine_from options m led.done; stands = led.stands })

pub asked_same : {A E : Type 0} (options : Options) (m : Machine) (asked : Asked) (old new : Stored) (result : Result A E) → asks_other asked ≡ true → Stands old m
    → LedTo options m (events_of options m asked) new result → (requests_in new ≡ requests_in old) × StandsForSome (kept_of new)
asked_same options m asked old new result other stands led =
    led_same options m (events_of options m asked) old new result (asked_other options m asked other) stands led
