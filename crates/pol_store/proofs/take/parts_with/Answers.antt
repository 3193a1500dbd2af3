use Rattle.std.proofs.Common.{IsSome, sym, subst}
use Rattle.std.specs.List.{AllByRecursion}
use Rattle.pol_filters.specs.declared.filter.Filters.{Filters}
use Rattle.pol_selcache.specs.Live.{number_of}
use Rattle.pol_taken.specs.PeerRows.{AreSetsFor, filter_peers}
use Rattle.pol_store.proofs.take.parts_with.Goals as goal

pub sets_of-requires : goal.sets_of-requires
sets_of-requires c = record {
  live = subst (λ (fs : Filters). AllByRecursion (λ p. IsSome (number_of p c.args.cache.now.live)) (filter_peers fs)) (sym c.deref.ensures) c.requires.live;
}

pub returns-clause-sets : goal.returns-clause-sets
returns-clause-sets c = subst (λ (fs : Filters). AreSetsFor c.args.cache.now.live fs c.in_ok-sets.sets) c.deref.ensures c.in_ok-sets.ensures.sets
