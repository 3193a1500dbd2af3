use Rattle.std.proofs.Common.{◌∙◌, ap}
use Rattle.pol_kept.specs.Keeps.{requests_in}
use Rattle.pol_kept.specs.Kept.{KeptState}
use Rattle.pol_kept.proofs.Disks.{kept_on}
use Rattle.pol_kept.proofs.Others.{other_same}
use Rattle.pol_machine.specs.Stands.{options_in}
use Rattle.pol_kept.proofs.kept.Kept.other.Goals as goal

pub invariant_of-self : goal.invariant_of-self
invariant_of-self g c = λ still.
    let d = g.D.Disk in
    let i = c.self.inside in
    let kept = c.self.invariant still in
    let m = kept.stands.machine in
    let same = other_same (options_in i.machine) m c.args.event i.machine c.step.new.self c.step.result c.requires.other kept.stands.stands (c.step.ensures.step m kept.stands.stands) in
    kept_on d.seen d.may_leave i.disk i.machine c.step.new.self kept same.1 c.step.ensures.options same.0

pub returns-clause-requests : goal.returns-clause-requests
returns-clause-requests g c =
    let i = c.self.inside in
    let kept = c.self.invariant (ap (λ (k : KeptState g.row.D.Denot). k.lost) c.self.view_is ∙ c.requires.not_lost) in
    let m = kept.stands.machine in
    let same = other_same (options_in i.machine) m c.args.event i.machine c.step.new.self c.step.result c.requires.other kept.stands.stands (c.step.ensures.step m kept.stands.stands) in
    same.0 ∙ ap (λ (k : KeptState g.row.D.Denot). requests_in k.machine) c.self.view_is
