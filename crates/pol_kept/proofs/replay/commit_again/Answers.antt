use Rattle.std.proofs.Common.{Bool, sym, subst}
use Rattle.pol_kept.specs.Keeps.{CommitsAgain, requests_in}
use Rattle.pol_kept.proofs.Machines.{one_more}
use Rattle.pol_machine.specs.Serial.{machine_of}
use Rattle.pol_machine.specs.Stands.{options_in}
use Rattle.pol_kept.proofs.replay.commit_again.Goals as goal

pub returns : goal.returns
returns g c =
    let old = c.args.machine.now in
    let options = options_in old in
    let steps = c.in_ok-reply.ensures.step (machine_of options (requests_in old)) c.requires.stands in
    record {
      done =
          subst (λ (b : Bool). CommitsAgain options c.args.request old c.step.new.self b) (sym c.is_committed.ensures)
          (one_more options c.args.request old c.step.new.self c.requires.stands c.step.ensures.options c.in_ok-reply.reply steps.0 steps.1);
    }
