use Rattle.std.proofs.Common.{◌≡◌, IsSome, sym, ap, ◌∙◌, subst}
use Rattle.std.specs.Arc.{arc_value}
use Rattle.std.specs.List.{AllByRecursion}
use Rattle.pol_filters.specs.Resolved.{filters_for}
use Rattle.pol_kept_filters.specs.Kept.{IsListedIn}
use Rattle.pol_kept_filters.proofs.Rows.{every-among, served}
use Rattle.pol_selcache.specs.Cache.{Cache}
use Rattle.pol_selcache.specs.Live.{number_of}
use Rattle.pol_taken.specs.PeerRows.{filter_peers}
use Rattle.pol_store.specs.Store.{Stored}
use Rattle.pol_store.proofs.Taking.{listed_live, parts_are}
use Rattle.pol_store.proofs.store.Store.parts.Goals as goal

pub parts_of-requires : goal.parts_of-requires
parts_of-requires c =
    let kept = c.in-Some.kept.now in
    let labels = c.args.labels.now in
    let own = subst (λ (t : Stored). arc_value kept.filters ≡ filters_for t.state.policies labels t.state.mode c.args.localhost) c.self.view_is
    (served c.self.inside.policies.list c.self.inside.mode c.self.inside.kept kept labels c.args.localhost c.self.invariant.2 c.in-Some.ensures.kept c.in-Some.ensures.serves) in
    let cache = c.selectors.ensures.cache ∙ ap (λ (t : Stored). t.cache) c.self.view_is in
    record {
      listed = subst (λ (cache : Cache). IsListedIn cache kept) (sym c.selectors.ensures.cache)
          (every-among (IsListedIn c.self.inside.numbers.cache) c.self.inside.kept kept c.self.invariant.4.listed c.in-Some.ensures.kept);
      live = subst (λ (cache : Cache). AllByRecursion (λ p. IsSome (number_of p cache.live)) (filter_peers (arc_value kept.filters))) (sym cache)
          (listed_live c.args.self.now c.args.labels.now c.args.localhost (arc_value kept.filters) c.requires.refs own);
    }

pub returns-in-Some : goal.returns-in-Some
returns-in-Some c =
    let kept = c.in-Some.kept.now in
    let labels = c.args.labels.now in
    let own = subst (λ (t : Stored). arc_value kept.filters ≡ filters_for t.state.policies labels t.state.mode c.args.localhost) c.self.view_is
    (served c.self.inside.policies.list c.self.inside.mode c.self.inside.kept kept labels c.args.localhost c.self.invariant.2 c.in-Some.ensures.kept c.in-Some.ensures.serves) in
    let cache = c.selectors.ensures.cache ∙ ap (λ (t : Stored). t.cache) c.self.view_is in
    record {
      parts = parts_are c.args.self.now c.args.labels.now c.args.localhost c.selectors.result.now (arc_value kept.filters) c.parts_of.result cache own c.parts_of.ensures.filters c.parts_of.ensures.sets;
    }
