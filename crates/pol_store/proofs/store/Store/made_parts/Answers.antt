use Rattle.std.proofs.Common.{IsSome, sym, ap, ◌∙◌, subst}
use Rattle.std.specs.Arc.{arc_value}
use Rattle.std.specs.List.{AllByRecursion}
use Rattle.pol_filters.specs.Resolved.{filters_for}
use Rattle.pol_selcache.specs.Cache.{Cache}
use Rattle.pol_selcache.specs.Live.{number_of}
use Rattle.pol_taken.specs.PeerRows.{filter_peers}
use Rattle.pol_store.specs.Store.{Stored}
use Rattle.pol_store.proofs.Taking.{listed_live, parts_are}
use Rattle.pol_store.proofs.store.Store.made_parts.Goals as goal

pub parts_with-requires : goal.parts_with-requires
parts_with-requires c =
    let own = c.in_ok-filters.ensures.ok ∙ c.in_ok-own.ensures.filters
    ∙ (λ i. filters_for ((c.as_slice.ensures.list ∙ ap (λ (t : Stored). t.state.policies) c.self.view_is) i) c.args.labels.now ((ap (λ (t : Stored). t.state.mode) c.self.view_is) i) c.args.localhost) in
    let cache = c.selectors.ensures.cache ∙ ap (λ (t : Stored). t.cache) c.self.view_is in
    record {
      live = subst (λ (cache : Cache). AllByRecursion (λ p. IsSome (number_of p cache.live)) (filter_peers (arc_value c.in_ok-filters.filters))) (sym cache)
          (listed_live c.args.self.now c.args.labels.now c.args.localhost (arc_value c.in_ok-filters.filters) c.requires.refs own);
    }

pub returns : goal.returns
returns c =
    let own = c.in_ok-filters.ensures.ok ∙ c.in_ok-own.ensures.filters
    ∙ (λ i. filters_for ((c.as_slice.ensures.list ∙ ap (λ (t : Stored). t.state.policies) c.self.view_is) i) c.args.labels.now ((ap (λ (t : Stored). t.state.mode) c.self.view_is) i) c.args.localhost) in
    let cache = c.selectors.ensures.cache ∙ ap (λ (t : Stored). t.cache) c.self.view_is in
    record {
      parts = parts_are c.args.self.now c.args.labels.now c.args.localhost c.selectors.result.now (arc_value c.in_ok-filters.filters) c.parts_with.result cache own c.parts_with.ensures.filters c.parts_with.ensures.sets;
    }
