use Rattle.std.proofs.Common.{◌≡◌, sym, ap, ◌∙◌, subst}
use Rattle.std.specs.Arc.{arc_value}
use Rattle.pol_filters.specs.Resolved.{filters_for}
use Rattle.pol_selcache.specs.Cache.{Cache}
use Rattle.pol_taken.specs.Known.{IsKnownIn}
use Rattle.pol_taken.specs.PeerRows.{AreSetsFor}
use Rattle.pol_store.specs.Store.{Stored}
use Rattle.pol_store.proofs.store.Store.keep_parts.Goals as goal

pub invariant_of-self : goal.invariant_of-self
invariant_of-self c =
    let parts = c.args.parts.now in
    let known = c.in_ok-known.known in
    let own = subst (λ (t : Stored). arc_value parts.filters ≡ filters_for t.state.policies c.args.labels.now t.state.mode c.args.localhost) (sym c.self.view_is) c.requires.parts.filters in
    let cache = c.selectors.ensures.cache ∙ ap (λ (t : Stored). t.cache) c.self.view_is in
    let sets = subst (λ (held : Cache). AreSetsFor held.live (arc_value parts.filters) parts.sets) (sym cache) c.requires.parts.sets in
    let read = c.in_ok-known.ensures.known (arc_value parts.filters) sets in (
      c.self.invariant.0,
      c.self.invariant.1,
      c.keep.ensures.kept c.self.inside.policies.list c.self.inside.mode own c.self.invariant.2,
      c.self.invariant.3,
      record {
        identities = c.self.invariant.4.identities;
        ascend = c.self.invariant.4.ascend;
        exact = c.self.invariant.4.exact;
        listed = c.keep.ensures.listed c.self.inside.numbers.cache read.0 (subst (λ (held : Cache). IsKnownIn held known) c.selectors.ensures.cache read.1) c.self.invariant.4.listed;
      },
    )
