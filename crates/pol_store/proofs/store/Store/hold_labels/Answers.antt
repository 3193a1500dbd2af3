use Rattle.pol_store.proofs.Kept.{listed_held, numbers_held, told_moved}
use Rattle.pol_store.proofs.store.Store.hold_labels.Goals as goal

pub invariant_of-self : goal.invariant_of-self
invariant_of-self g c = (
  c.self.invariant.0,
  c.self.invariant.1,
  c.self.invariant.2,
  told_moved c.self.inside.endpoints.list c.self.inside.numbers.rows c.hold_labels.new.self.rows c.self.inside.addresses
      (numbers_held _ c.args.labels.now c.self.inside.numbers c.hold_labels.new.self c.hold_labels.result c.hold_labels.ensures.held c.hold_labels.ensures.err) c.self.invariant.3,
  listed_held _ c.args.labels.now c.self.inside.numbers c.hold_labels.new.self c.self.inside.kept c.hold_labels.result c.hold_labels.ensures.held c.hold_labels.ensures.err c.self.invariant.4,
)
