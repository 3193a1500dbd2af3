use Rattle.std.proofs.Common.{ℕ, refl, subst}
use Rattle.pol_history.specs.declared.machine.Event.TheVariants as step
use Rattle.pol_history.specs.Machine.{Machine}
use Rattle.pol_machine.specs.Parts.{FinishesSlot, by_slot}
use Rattle.pol_machine.specs.Rows.{by_name}
use Rattle.pol_machine.specs.Stands.{Kept, Stands, StepsTo, Stored, kept_of, options_in, options_of}
use Rattle.pol_machine.proofs.Begun.{stands_after}
use Rattle.pol_machine.proofs.Finishing.{finish_steps, have_sets, may_finish_place}
use Rattle.pol_machine.proofs.machine.Machine.finish.Goals as goal

pub finish-requires-clause-sets : goal.finish-requires-clause-sets
finish-requires-clause-sets c =
    let i = c.self.inside in
    let k : Kept = kept_of (record { limit = i.limit; repo = i.repo; rows = i.rows.entries; takes = i.takes.entries }) in
    have_sets k c.self.invariant.machine c.self.invariant.stands c.args.slot (k.takes c.args.slot) refl

pub finish-requires-clause-may : goal.finish-requires-clause-may
finish-requires-clause-may c =
    let i = c.self.inside in
    let k : Kept = kept_of (record { limit = i.limit; repo = i.repo; rows = i.rows.entries; takes = i.takes.entries }) in
    may_finish_place k c.self.invariant.machine c.self.invariant.stands c.args.slot (k.takes c.args.slot) refl

pub invariant_of-self : goal.invariant_of-self
invariant_of-self c =
    let i = c.self.inside in
    let k : Kept = kept_of (record { limit = i.limit; repo = i.repo; rows = i.rows.entries; takes = i.takes.entries }) in
    let rows = by_name c.finish.new.rows in
    let takes = by_slot c.finish.new.takes in
    stands_after (options_of k) c.self.invariant.machine (step.Finish c.args.slot)
    (kept_of (record { limit = i.limit; repo = i.repo; rows = c.finish.new.rows.entries; takes = c.finish.new.takes.entries })) c.finish.result
    (finish_steps k c.self.invariant.machine c.self.invariant.stands c.args.slot rows takes c.finish.result
    (subst (λ (n : ℕ). FinishesSlot i.limit n c.args.slot k.takes k.rows rows takes c.finish.result) c.revision-commits.ensures.revision c.finish.ensures))

pub returns-clause-step : goal.returns-clause-step
returns-clause-step c =
    let i = c.self.inside in
    let k : Kept = kept_of (record { limit = i.limit; repo = i.repo; rows = i.rows.entries; takes = i.takes.entries }) in
    let rows = by_name c.finish.new.rows in
    let takes = by_slot c.finish.new.takes in
    let new : Stored = record { limit = i.limit; repo = i.repo; rows = c.finish.new.rows.entries; takes = c.finish.new.takes.entries } in
    subst (λ (s : Stored). (m : Machine) → Stands s m → StepsTo (options_in s) m (step.Finish c.args.slot) new c.finish.result) c.self.view_is
    (λ m stands. finish_steps k m stands c.args.slot rows takes c.finish.result
    (subst (λ (n : ℕ). FinishesSlot i.limit n c.args.slot k.takes k.rows rows takes c.finish.result) c.revision-commits.ensures.revision c.finish.ensures))
