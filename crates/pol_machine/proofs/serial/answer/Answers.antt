use Rattle.std.proofs.Common.{[], sym, subst}
use Rattle.pol_machine.specs.Serial.{LedTo, SaidTo, events_of}
use Rattle.pol_machine.specs.Stands.{options_in}
use Rattle.pol_machine.specs.declared.asked.Asked.{Asked}
use Rattle.pol_machine.proofs.Led.{led_all, said_commit, said_look}
use Rattle.pol_machine.proofs.serial.answer.Goals as goal

pub returns-in-Commit-clause-said : goal.returns-in-Commit-clause-said
returns-in-Commit-clause-said g c m stands =
    let options = options_in c.args.machine.now in
    subst (λ (asked : Asked). SaidTo options m asked c.replied.result) (sym c.in-Commit.is)
    (said_commit options m c.in-Commit.request c.replied.result (c.replied.ensures.said m stands))

pub returns-in-Look-clause-said : goal.returns-in-Look-clause-said
returns-in-Look-clause-said g c m stands =
    let options = options_in c.args.machine.now in
    subst (λ (asked : Asked). SaidTo options m asked c.replied-in-Look.result) (sym c.in-Look.is)
    (said_look options m c.in-Look.query c.replied-in-Look.result (c.replied-in-Look.ensures.said m stands))

pub returns-in-Explain-clause-led : goal.returns-in-Explain-clause-led
returns-in-Explain-clause-led g c m stands =
    let options = options_in c.args.machine.now in
    subst (λ (asked : Asked). LedTo options m (events_of options m asked) c.args.machine.now c.explained.result) (sym c.in-Explain.is)
    (led_all options m [] c.args.machine.now c.explained.result stands)
