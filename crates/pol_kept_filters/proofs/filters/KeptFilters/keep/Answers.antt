use Rattle.std.proofs.Common.{sym, subst, ◌∙◌}
use Rattle.std.specs.Arc.{arc_value}
use Rattle.pol_filters.specs.declared.filter.Filters.{Filters}
use Rattle.pol_filters.specs.Resolved.{filters_for}
use Rattle.pol_taken.specs.Known.{IsKnownIn, IsListingOf, KnownRows}
use Rattle.pol_taken.specs.PeerRows.{filter_peers}
use Rattle.pol_kept_filters.proofs.filters.KeptFilters.keep.Goals as goal

pub returns : goal.returns
returns c =
    record {
      kept = λ policies mode own are.
          c.put.ensures.kept policies mode (c.in_ok-kept.ensures.filters ∙ own ∙ sym (λ i. filters_for policies (c.in_ok-kept.ensures.labels i) mode (c.in_ok-kept.ensures.localhost i))) are;
      listed = λ cache listing known are.
          c.put.ensures.listed cache (record {
            listing = subst (λ (fs : Filters). IsListingOf (filter_peers fs) c.in_ok-kept.kept.known.rows) (sym c.in_ok-kept.ensures.filters)
                (subst (λ (k : KnownRows). IsListingOf (filter_peers (arc_value c.args.filters.now)) k.rows) (sym c.in_ok-kept.ensures.known) listing);
            known = subst (IsKnownIn cache) (sym c.in_ok-kept.ensures.known) known;
          }) are;
    }
