use Rattle.std.proofs.Common.{◌↔◌, ◌<◌, ◌+◌, IsErrOf, subst}
use Rattle.pol_model.specs.declared.limits.TheConstants.{LOCAL_IDENTITIES}
use Rattle.pol_model.specs.Fault.{locals_held, locals_wanted}
use Rattle.pol_ident.specs.declared.error.IdentError.TheVariants.{Exhausted}
use Rattle.pol_store.specs.Store.{Stored}
use Rattle.pol_store.proofs.Kept.{listed_in_room, told_on}
use Rattle.pol_store.proofs.store.Store.hold_prefixes.Goals as goal

pub returns-clause-exhausted : goal.returns-clause-exhausted
returns-clause-exhausted g c =
    subst (λ (t : Stored). IsErrOf c.hold_prefixes.result Exhausted ↔ (LOCAL_IDENTITIES < locals_held t.state.identities + locals_wanted t.state.identities c.args.taken.now))
    c.self.view_is c.hold_prefixes.ensures.exhausted

pub invariant_of-self : goal.invariant_of-self
invariant_of-self g c = (
  c.self.invariant.0,
  c.self.invariant.1,
  c.self.invariant.2,
  told_on c.self.inside.endpoints.list c.self.inside.numbers c.hold_prefixes.new.self c.self.inside.addresses c.let_go.new.addresses
      c.let_go-2.new.addresses c.args.taken.now c.args.given_up.now c.hold_prefixes.result c.let_go.ensures.left
      c.let_go-2.ensures.left c.hold_prefixes.ensures.rows c.hold_prefixes.ensures.err c.self.invariant.3,
  listed_in_room c.self.inside.numbers.cache c.hold_prefixes.new.self.cache c.self.inside.kept _ c.hold_prefixes.ensures.sets c.self.invariant.4,
)
