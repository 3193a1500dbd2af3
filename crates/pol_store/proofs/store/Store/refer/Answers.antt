use Rattle.std.proofs.Common.{subst, sym}
use Rattle.pol_selcache.specs.Live.{AreExact}
use Rattle.pol_peers.specs.Numbering.{GainsRefs}
use Rattle.pol_store.specs.Store.{Stored}
use Rattle.pol_store.proofs.Kept.{listed_more, told_still}
use Rattle.pol_store.proofs.store.Store.refer.Goals as goal

pub invariant_of-self : goal.invariant_of-self
invariant_of-self g c =
    let exact = subst (λ (t : Stored). AreExact t.state.identities t.cache.live) (sym c.self.view_is) c.requires.exact in (
      c.self.invariant.0,
      c.self.invariant.1,
      c.self.invariant.2,
      told_still c.self.inside.endpoints.list c.self.inside.numbers.rows c.refer.new.self.rows c.self.inside.addresses c.refer.ensures.rows c.self.invariant.3,
      listed_more c.self.inside.numbers.cache c.refer.new.self.cache c.self.inside.kept c.self.inside.numbers.rows c.fits_together.ensures.rows.numbers exact c.refer.ensures.gains c.self.invariant.4,
    )

pub returns-clause-gains : goal.returns-clause-gains
returns-clause-gains g c = subst (λ (t : Stored). GainsRefs t.state.identities t.cache c.refer.new.self.cache) c.self.view_is c.refer.ensures.gains
