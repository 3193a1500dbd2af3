use Rattle.std.proofs.Common.{◌∙◌, ap}
use Rattle.pol_kept.specs.Keeps.{requests_in}
use Rattle.pol_kept.specs.Kept.{KeptState}
use Rattle.pol_kept.proofs.Asked.{asked_same}
use Rattle.pol_kept.proofs.Disks.{kept_on}
use Rattle.pol_machine.specs.Stands.{options_in}
use Rattle.pol_kept.proofs.kept.Kept.answer.Goals as goal

pub invariant_of-self : goal.invariant_of-self
invariant_of-self g c = λ still.
    let d = g.D.Disk in
    let i = c.self.inside in
    let kept = c.self.invariant still in
    let m = kept.stands.machine in
    let same = asked_same (options_in i.machine) m c.args.asked i.machine c.answer.new.machine c.answer.result c.requires.other kept.stands.stands (c.answer.ensures.led m kept.stands.stands) in
    kept_on d.seen d.may_leave i.disk i.machine c.answer.new.machine kept same.1 c.answer.ensures.options same.0

pub returns-clause-requests : goal.returns-clause-requests
returns-clause-requests g c =
    let i = c.self.inside in
    let kept = c.self.invariant (ap (λ (k : KeptState g.row.D.Denot). k.lost) c.self.view_is ∙ c.requires.not_lost) in
    let m = kept.stands.machine in
    let same = asked_same (options_in i.machine) m c.args.asked i.machine c.answer.new.machine c.answer.result c.requires.other kept.stands.stands (c.answer.ensures.led m kept.stands.stands) in
    same.0 ∙ ap (λ (k : KeptState g.row.D.Denot). requests_in k.machine) c.self.view_is
