use Rattle.std.proofs.Common.{refl, ap}
use Rattle.pol_store.specs.Store.{Stored}
use Rattle.pol_store.proofs.Taking.{is_taken}
use Rattle.pol_store.proofs.store.Store.taken_for.Goals as goal

pub returns-clause-taken : goal.returns-clause-taken
returns-clause-taken c = λ options s slot leave stands at.
    let tells = c.in_ok-addresses.ensures.tells in
    is_taken options s slot c.args.self.now c.args.endpoint c.args.localhost _ leave stands at
    (ap (λ (t : Stored). t.state.revision) c.self.view_is)
    refl
    c.in_ok-parts.ensures.parts.filters
    c.in_ok-parts.ensures.parts.sets
    (tells.numbers c.args.self.now.state.identities tells.is)

pub returns-clause-selectors : goal.returns-clause-selectors
returns-clause-selectors c = c.in_ok-parts.ensures.parts.sets.selectors
