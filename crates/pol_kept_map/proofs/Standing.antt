-- What a work keeps, before and after it goes to other filters and sets.
use Rattle.std.proofs.Common.{◌≡◌, ℕ, ◌+◌, ◌≤◌, List, length, Result, Ok, Err, Some, IfOk, OnOk, ◌∙◌, ap, arith}
use Rattle.std.specs.List.{AllByRecursion}
use Rattle.pol_mapkey.specs.declared.Kind.{Kind}
use Rattle.pol_mapkey.specs.declared.MapKey.{MapKey}
use Rattle.pol_model.specs.PolicyMap.{canonical}
use Rattle.pol_sets.specs.declared.sets.SetRow.{SetRow}
use Rattle.pol_sets.specs.Sets.{set_given}
use Rattle.pol_filters.specs.declared.filter.Filters.{Filters}
use Rattle.pol_filters.specs.FilterParts.{filter_parts}
use Rattle.pol_distill.specs.Distilled.{distilled}
use Rattle.pol_distill.specs.Sorted.{HaveSets, IsSmall}
use Rattle.pol_distill.proofs.Small.{raw_small}
use Rattle.pol_mapkey.specs.Entries.{Entry}
use Rattle.pol_map_changes.specs.Changes.{IsDifference, table_of}
use Rattle.pol_entry_tally.specs.declared.sizes.Changed.{Changed}
use Rattle.pol_entry_tally.specs.declared.tally.Tally.{Tally}
use Rattle.pol_entry_tally.specs.Counted.{AreInOrder, IsTallyOf, times_of}
use Rattle.pol_entry_tally.specs.Times.{times}
use Rattle.pol_entry_changes.specs.Balance.{Leads}
use Rattle.pol_entry_changes.specs.Given.{raw_of}
use Rattle.pol_entry_changes.specs.declared.staying.Moved.{Moved}
use Rattle.pol_kept_map.specs.Kept.{IsKept}

-- a tally of entries that were made
pub tally_made : (made raw : List Entry) (tally : Tally) → IsTallyOf made tally → ((q : MapKey) (k : Kind) → times made q k ≡ times raw q k) → IsTallyOf raw tally
tally_made made raw tally is same = record { order = is.order; counts = λ q k. is.counts q k ∙ same q k }

-- what comes and goes, as the lists that are handed on
pub led_by : (was is come gone : List Entry) (moved : Moved) → Leads was is moved → come ≡ moved.come.items → gone ≡ moved.gone.items
    → (q : MapKey) (k : Kind) → times is q k + times gone q k ≡ times was q k + times come q k
led_by was is come gone moved leads come_is gone_is q k = omega (arith, leads q k, ap (λ es. times es q k) come_is, ap (λ es. times es q k) gone_is)

module _ (was is come gone : List Entry) (leads : (q : MapKey) (k : Kind) → times is q k + times gone q k ≡ times was q k + times come q k) (old new : Tally)
    (counted : IsTallyOf was old) where
  -- nothing goes that isn't there or comes
  pub there : (q : MapKey) (k : Kind) → times gone q k ≤ times_of old q k + times come q k
  there q k = omega (arith, leads q k, counted.counts q k)

  led : AreInOrder new → ((q : MapKey) (k : Kind) → times_of new q k + times gone q k ≡ times_of old q k + times come q k) → IsTallyOf is new
  led order counts = record { order = order; counts = λ q k. omega (arith, leads q k, counted.counts q k, counts q k) }

module _ (was is : Filters) (was_rows is_rows : List SetRow) (come gone : List Entry) (size : ℕ) (old new : Tally)
    (leads : (q : MapKey) (k : Kind) → times (raw_of is is_rows) q k + times gone q k ≡ times (raw_of was was_rows) q k + times come q k)
    (kept : IsKept was was_rows size (Some old)) (have : HaveSets is_rows is) (order : AreInOrder new) where
  small : (filters : Filters) (rows : List SetRow) → AllByRecursion IsSmall (raw_of filters rows)
  small filters rows = raw_small (set_given rows) (filter_parts filters)

  counts_now : ((q : MapKey) (k : Kind) → times_of new q k + times gone q k ≡ times_of old q k + times come q k) → IsTallyOf (raw_of is is_rows) new
  counts_now counts = led (raw_of was was_rows) (raw_of is is_rows) come gone leads old new kept.counts order counts

  abbrev Counts : {E : Type 0} → Result Changed E → Type 0
  Counts r = OnOk r ((q : MapKey) (k : Kind) → times_of new q k + times gone q k ≡ times_of old q k + times come q k)

  pub turned_kept : {E : Type 0} (r : Result Changed E) → Counts r
      → IfOk r (λ changed. (before after : List Entry) → AllByRecursion IsSmall before → AllByRecursion IsSmall after → IsTallyOf before old → IsTallyOf after new
      → size ≡ length (canonical before) → changed.size ≡ length (canonical after)) → IfOk r (λ changed. IsKept is is_rows changed.size (Some new))
  turned_kept (Ok changed) counts sizes = record {
    have = have;
    counts = counts_now counts;
    sized = sizes (raw_of was was_rows) (raw_of is is_rows) (small was was_rows) (small is is_rows) kept.counts (counts_now counts) kept.sized;
  }
  turned_kept (Err e) counts sizes = tt

  pub turned_list : {E : Type 0} (r : Result Changed E) → Counts r
      → IfOk r (λ changed. (before after : List Entry) → AllByRecursion IsSmall before → AllByRecursion IsSmall after → IsTallyOf before old → IsTallyOf after new
      → IsDifference changed.list (table_of (canonical before)) (table_of (canonical after)))
      → IfOk r (λ changed. IsDifference changed.list (table_of (distilled was was_rows)) (table_of (distilled is is_rows)))
  turned_list (Ok changed) counts lists = lists (raw_of was was_rows) (raw_of is is_rows) (small was was_rows) (small is is_rows) kept.counts (counts_now counts)
  turned_list (Err e) counts lists = tt
