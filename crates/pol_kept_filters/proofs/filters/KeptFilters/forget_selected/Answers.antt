use Rattle.std.proofs.Common.{ℕ, not, ap, ◌∙◌, rules}
use Rattle.std.specs.Map.{values_of}
use Rattle.indexmap.proofs.CallerLemmas.{filter-RetainsPairs}
use Rattle.pol_kept_filters.specs.declared.kept.Kept.{Kept}
use Rattle.pol_kept_filters.specs.Kept.{selects, without_selected}
use Rattle.pol_kept_filters.proofs.Rows.{values-filter}
use Rattle.pol_kept_filters.proofs.filters.KeptFilters.forget_selected.Goals as goal

pub returns : goal.returns
returns c = record {
  left =
      ap values_of (filter-RetainsPairs _ (λ (e : ℕ × Kept). not (selects e.1.labels c.args.policy.now)) _ (λ k v b w g call. search rules) _ _ c.retain.ensures.filtered)
      ∙ values-filter (λ (kept : Kept). not (selects kept.labels c.args.policy.now)) _
      ∙ ap (without_selected c.args.policy.now) c.self.view_is;
}
