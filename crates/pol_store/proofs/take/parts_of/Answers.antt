use Rattle.std.proofs.Common.{◌≡◌, IfOk, IfSome, IsSome, sym, ◌∙◌, subst}
use Rattle.std.specs.Arc.{arc_value}
use Rattle.std.specs.List.{AllByRecursion}
use Rattle.pol_filters.specs.declared.filter.Filters.{Filters}
use Rattle.pol_selcache.specs.Live.{number_of}
use Rattle.pol_taken.specs.Known.{IsKnownIn, IsListingOf, KnownRows}
use Rattle.pol_taken.specs.PeerRows.{AreSetsFor, filter_peers}
use Rattle.pol_store.proofs.take.parts_of.Goals as goal

pub sets_of-requires : goal.sets_of-requires
sets_of-requires c = record { known = subst (IsKnownIn c.args.cache.now) (sym c.known.ensures.known) c.requires.listed.known }

pub returns-in-Some : goal.returns-in-Some
returns-in-Some c =
    let kept = c.args.kept.now in
    let cache = c.args.cache.now in
    let told = subst (λ o. IfSome o (λ sets. (filters : Filters) → IsListingOf (filter_peers filters) c.known.result.now.rows → AreSetsFor cache.live filters sets)) c.in-Some.is c.in_ok-found.ensures.sets in
    record {
      filters = c.in_ok-filters.ensures ∙ c.filters.ensures.filters;
      sets = told (arc_value kept.filters)
          (subst (λ (k : KnownRows). IsListingOf (filter_peers (arc_value kept.filters)) k.rows) (sym c.known.ensures.known) c.requires.listed.listing);
    }

pub parts_with-requires : goal.parts_with-requires
parts_with-requires c = record {
  live = subst (λ (fs : Filters). AllByRecursion (λ p. IsSome (number_of p c.args.cache.now.live)) (filter_peers fs)) (sym (c.in_ok-filters.ensures ∙ c.filters.ensures.filters)) c.requires.live;
}

pub returns-in-None : goal.returns-in-None
returns-in-None c =
    let same = c.in_ok-filters.ensures ∙ c.filters.ensures.filters in
    record {
      filters = subst (λ (fs : Filters). IfOk c.parts_with.result (λ parts. arc_value parts.filters ≡ fs)) same c.parts_with.ensures.filters;
      sets = subst (λ (fs : Filters). IfOk c.parts_with.result (λ parts. AreSetsFor c.args.cache.now.live fs parts.sets)) same c.parts_with.ensures.sets;
    }
