use Rattle.std.proofs.Common.{sym, subst}
use Rattle.pol_selcache.specs.Live.{AreExact}
use Rattle.pol_peers.specs.Numbering.{GainsRefs}
use Rattle.pol_allocator.specs.Held.{Held}
use Rattle.pol_allocator.proofs.allocator.Allocator.refer.Goals as goal

pub hold_peers-requires : goal.hold_peers-requires
hold_peers-requires g c = record {
  exact = subst (λ (held : Held). AreExact held.rows held.cache.live) (sym c.self.view_is) c.requires.exact;
}

pub returns-clause-gains : goal.returns-clause-gains
returns-clause-gains g c = subst (λ (held : Held). GainsRefs held.rows held.cache c.hold_peers.new.cache) c.self.view_is c.hold_peers.ensures.gains
