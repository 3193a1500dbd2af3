-- What is taken of a store is what is taken of each state that it stands for.
use Rattle.std.proofs.Common.{◌≡◌, ℕ, Bool, IsSome, IfOk, List, Some, Result, Ok, Err, sym, ap, ◌∙◌, subst}
use Rattle.std.specs.Arc.{arc_value}
use Rattle.std.specs.List.{AllByRecursion}
use Rattle.pol_addr.specs.declared.address.Addr.{Addr}
use Rattle.pol_labels.specs.declared.label.Label.{Label}
use Rattle.pol_model.specs.declared.options.Options.{Options}
use Rattle.pol_model.specs.declared.row.Endpoint.{Endpoint}
use Rattle.pol_model.specs.Remote.{number_at}
use Rattle.pol_model.specs.State.{State}
use Rattle.pol_selcache.specs.Cache.{Cache}
use Rattle.pol_selcache.specs.Live.{number_of}
use Rattle.pol_peers.specs.References.{RefsOf}
use Rattle.pol_filters.specs.declared.filter.Filters.{Filters}
use Rattle.pol_filters.specs.Resolved.{filters_for}
use Rattle.pol_tables.specs.Tables.{endpoint_in}
use Rattle.pol_prefixes.specs.AddressTable.{number_in}
use Rattle.pol_taken.specs.declared.taken.Taken.{Taken}
use Rattle.pol_taken.specs.OfState.{IsTakenOf}
use Rattle.pol_taken.specs.PeerRows.{AreSetsFor, filter_peers}
use Rattle.pol_taken.proofs.Listing.{filters_live}
use Rattle.pol_store.specs.declared.take.Parts.{Parts}
use Rattle.pol_store.specs.Takes.{ArePartsFor}
use Rattle.pol_store.specs.Store.{StandsFor, Stored, peers_of}

-- the peers that the filters of some labels list are live
pub listed_live : (stored : Stored) (labels : List Label) (localhost : Bool) (filters : Filters) → RefsOf (peers_of stored.state.policies) stored.cache.live
    → filters ≡ filters_for stored.state.policies labels stored.state.mode localhost
    → AllByRecursion (λ p. IsSome (number_of p stored.cache.live)) (filter_peers filters)
listed_live stored labels localhost filters refs is =
    subst (λ (own : Filters). AllByRecursion (λ p. IsSome (number_of p stored.cache.live)) (filter_peers own)) (sym is)
    (filters_live stored.state.policies labels stored.state.mode localhost stored.cache.live refs)

-- parts that have these filters, and the sets of their peers, are those of the labels where the filters are
pub parts_are : {E : Type 0} (stored : Stored) (labels : List Label) (localhost : Bool) (cache : Cache) (filters : Filters) (r : Result Parts E)
    → cache ≡ stored.cache → filters ≡ filters_for stored.state.policies labels stored.state.mode localhost
    → IfOk r (λ parts. arc_value parts.filters ≡ filters) → IfOk r (λ parts. AreSetsFor cache.live filters parts.sets)
    → IfOk r (ArePartsFor stored labels localhost)
parts_are stored labels localhost cache filters (Ok parts) same own is sets = record {
  filters = is ∙ own;
  sets = subst (λ (c : Cache). AreSetsFor c.live (arc_value parts.filters) parts.sets) same (subst (λ (fs : Filters). AreSetsFor cache.live fs parts.sets) (sym is) sets);
}
parts_are stored labels localhost cache filters (Err e) same own is sets = tt

module _ (options : Options) (s : State) (slot : ℕ) (stored : Stored) (endpoint : Endpoint) (localhost : Bool) (taken : Taken) where
  pub is_taken : options.localhost ≡ localhost → StandsFor s stored → endpoint_in slot s.endpoints ≡ Some endpoint
      → taken.revision ≡ stored.state.revision → taken.endpoint ≡ endpoint
      → arc_value taken.filters ≡ filters_for stored.state.policies endpoint.labels stored.state.mode localhost
      → AreSetsFor stored.cache.live (arc_value taken.filters) taken.sets
      → ((address : Addr) → number_in address (arc_value taken.addresses) ≡ number_at address stored.state.endpoints stored.state.identities)
      → IsTakenOf options s slot taken
  is_taken leave stands at revision own filters sets addresses = record {
    revision = revision ∙ stands.like.revision;
    endpoint = at ∙ ap Some (sym own);
    filters = filters ∙ (λ i. filters_for (stands.like.policies i) (sym own i).labels (stands.like.mode i) (sym leave i));
    every = sets.every;
    listed = sets.listed;
    apart = sets.apart;
    selectors = sets.once;
    sets = sets.exact s.identities stands.exact;
    addresses = λ address. addresses address ∙ (λ i. number_at address (stands.like.endpoints i) (stands.like.identities i));
  }
