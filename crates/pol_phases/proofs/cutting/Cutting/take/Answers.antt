use Rattle.std.proofs.Common.{Vec, Global, ap, ◌∙◌}
use Rattle.pol_phases.specs.declared.commands.Commands.{Commands}
use Rattle.pol_phases.proofs.CutLines.{faulty-more, own-more, phase-more}
use Rattle.pol_phases.proofs.cutting.Cutting.take.Goals as goal

pub returns-in_ok-push-in-Err : goal.returns-in_ok-push-in-Err
returns-in_ok-push-in-Err c = λ lines so_far. let old = c.args.self.now in
    rw c.in-Err.is (faulty-more c.args.sessions lines c.in-Err.fault old.ended.items old.current.items old.marks c.push.new.self c.in_ok-push-in-Err.ensures.pushed so_far)

pub returns-in_ok-push-in-None-2 : goal.returns-in_ok-push-in-None-2
returns-in_ok-push-in-None-2 c = λ lines so_far. let old = c.args.self.now in
    rw c.in-Ok.is (phase-more c.args.sessions lines c.in-Ok.command old.ended.items c.push-in-None-2.new.self.items c.from_vec.result old.current.items c.replace-ended.new.dest.items
    old.marks c.push-in-None.new.self c.in-None.ensures c.in_ok-push-in-None-2.ensures.items
    (c.from_vec.ensures ∙ ap (λ (lists : Vec Commands Global). lists.items) c.replace-ended.ensures.value)
    (ap (λ (lists : Vec Commands Global). lists.items) c.replace-ended.ensures.after ∙ c.in_ok-none-in-None.ensures)
    c.in_ok-push-in-None.ensures.pushed so_far)

pub returns-in_ok-add-in-Some : goal.returns-in_ok-add-in-Some
returns-in_ok-add-in-Some c = λ lines so_far. let old = c.args.self.now in
    rw c.in-Ok.is (own-more c.args.sessions lines c.in-Ok.command c.in-Some.session old.ended.items old.current.items c.add.new.lists.items old.marks c.push-in-Some.new.self
    c.in-Some.ensures c.in_ok-add-in-Some.ensures c.in_ok-push-in-Some.ensures.pushed so_far)
