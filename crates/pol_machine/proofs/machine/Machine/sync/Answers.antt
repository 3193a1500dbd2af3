use Rattle.std.proofs.Common.{IfOk, List, ap, ◌∙◌, subst}
use Rattle.pol_history.specs.declared.machine.Event.{Event}
use Rattle.pol_history.specs.Machine.{machine_from}
use Rattle.pol_repo.specs.Repository.{Repository, state_in}
use Rattle.pol_machine.specs.Serial.{LedTo, ListsRows, turns_at, turns_in}
use Rattle.pol_machine.specs.Stands.{kept_of, options_in}
use Rattle.pol_machine.proofs.FullRows.{turns_are}
use Rattle.pol_machine.proofs.Led.{left}
use Rattle.pol_machine.proofs.machine.Machine.sync.Goals as goal

pub returns-in-Ok-clause-led : goal.returns-in-Ok-clause-led
returns-in-Ok-clause-led c m stands =
    let options = options_in c.args.self.now in
    let are =
    ap turns_at c.as_slice.ensures.value
    ∙ turns_are (kept_of c.args.self.now) m stands c.in-Ok.slots.items c.endpoints.result.now c.in-Ok.ensures
    (c.endpoints.ensures.list ∙ ap (λ (r : Repository). (state_in r).endpoints) c.repo.ensures.repo) in
    subst (λ (es : List Event). LedTo options m es c.sync_at.new.self c.sync_at.result) are (c.sync_at.ensures.led m stands)

pub returns-in-Ok-clause-full : goal.returns-in-Ok-clause-full
returns-in-Ok-clause-full c m stands =
    let options = options_in c.args.self.now in
    let are =
    ap turns_at c.as_slice.ensures.value
    ∙ turns_are (kept_of c.args.self.now) m stands c.in-Ok.slots.items c.endpoints.result.now c.in-Ok.ensures
    (c.endpoints.ensures.list ∙ ap (λ (r : Repository). (state_in r).endpoints) c.repo.ensures.repo) in
    subst (λ (es : List Event). IfOk c.sync_at.result (ListsRows options (machine_from options m es).history)) are (c.sync_at.ensures.full m stands)

pub returns-in-Err-clause-led : goal.returns-in-Err-clause-led
returns-in-Err-clause-led c m stands =
    let options = options_in c.args.self.now in
    left options m (turns_in options m.history) c.args.self.now stands
