use Rattle.std.proofs.Common.{◌∙◌, ◌≤◌, IfSome, ap, subst, sym}
use Rattle.pol_history.specs.declared.machine.Event.TheVariants as step
use Rattle.pol_history.specs.Machine.{Machine, endpoint_in}
use Rattle.pol_repo.specs.Repository.{Repository, state_in}
use Rattle.pol_machine.specs.Parts.{Takes, by_slot}
use Rattle.pol_machine.specs.Rows.{since_of}
use Rattle.pol_machine.specs.Stands.{Kept, Stands, StandsForSome, StepsTo, Stored, kept_of, options_in, options_of}
use Rattle.pol_machine.proofs.Begun.{stands_after}
use Rattle.pol_machine.proofs.Taking.{since_within, take_steps}
use Rattle.pol_machine.proofs.machine.Machine.take.Goals as goal

pub take-requires-clause-idle : goal.take-requires-clause-idle
take-requires-clause-idle c = ap (λ (r : Repository). r.prepared) c.refresh.ensures.same ∙ c.self.invariant.stands.at.idle

pub take-requires-clause-kept : goal.take-requires-clause-kept
take-requires-clause-kept c =
    let i = c.self.inside in
    let k : Kept = kept_of (record { limit = i.limit; repo = i.repo; rows = i.rows.entries; takes = i.takes.entries }) in
    subst (λ (r : Repository). IfSome (since_of k.rows (endpoint_in c.args.slot (state_in r).endpoints)) (λ revision. revision ≤ (state_in r).revision)) (sym c.refresh.ensures.same)
    (since_within k c.self.invariant.machine c.self.invariant.stands (endpoint_in c.args.slot (state_in i.repo).endpoints))

pub invariant_of-self : goal.invariant_of-self
invariant_of-self c =
    let i = c.self.inside in
    let k : Kept = kept_of (record { limit = i.limit; repo = i.repo; rows = i.rows.entries; takes = i.takes.entries }) in
    let told = subst (λ (r : Repository). Takes r k.rows c.args.slot k.takes (by_slot c.take.new.takes) c.take.result) c.refresh.ensures.same c.take.ensures in
    subst (λ (r : Repository). StandsForSome (kept_of (record { limit = i.limit; repo = r; rows = i.rows.entries; takes = c.take.new.takes.entries }))) (sym c.refresh.ensures.same)
    (stands_after (options_of k) c.self.invariant.machine (step.Take c.args.slot)
    (kept_of (record { limit = i.limit; repo = i.repo; rows = i.rows.entries; takes = c.take.new.takes.entries })) c.take.result
    (take_steps k c.self.invariant.machine c.self.invariant.stands c.args.slot (by_slot c.take.new.takes) c.take.result told))

pub returns-clause-step : goal.returns-clause-step
returns-clause-step c =
    let i = c.self.inside in
    let k : Kept = kept_of (record { limit = i.limit; repo = i.repo; rows = i.rows.entries; takes = i.takes.entries }) in
    let told = subst (λ (r : Repository). Takes r k.rows c.args.slot k.takes (by_slot c.take.new.takes) c.take.result) c.refresh.ensures.same c.take.ensures in
    let new : Repository → Stored = λ repo. record { limit = i.limit; repo = repo; rows = i.rows.entries; takes = c.take.new.takes.entries } in
    subst (λ (s : Stored). (m : Machine) → Stands s m → StepsTo (options_in s) m (step.Take c.args.slot) (new c.refresh.new.self) c.take.result) c.self.view_is
    (subst (λ (r : Repository). (m : Machine) → Stands (record { limit = i.limit; repo = i.repo; rows = i.rows.entries; takes = i.takes.entries }) m → StepsTo (options_of k) m (step.Take c.args.slot) (new r) c.take.result)
    (sym c.refresh.ensures.same) (λ m stands. take_steps k m stands c.args.slot (by_slot c.take.new.takes) c.take.result told))
