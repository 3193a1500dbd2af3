use Rattle.std.proofs.Common.{List, ap, subst, sym}
use Rattle.std.specs.Map.{values_of}
use Rattle.pol_kept_filters.specs.declared.kept.Kept.{Kept}
use Rattle.pol_kept_filters.specs.Kept.{AreKeptOf, AreListedIn, IsKeptOf, IsListedIn}
use Rattle.pol_kept_filters.proofs.Rows.{every-put}
use Rattle.pol_kept_filters.proofs.filters.KeptFilters.put.Goals as goal

pub returns : goal.returns
returns c = record {
  kept = λ policies mode own are.
      subst (λ (rows : List Kept). AreKeptOf policies mode rows) (sym (ap values_of c.in_ok-insert.ensures.entries))
      (every-put (λ (kept : Kept). IsKeptOf policies mode kept) _ c.self.inside.rows.entries c.args.slot c.args.kept
      (subst (λ (rows : List Kept). AreKeptOf policies mode rows) (sym c.self.view_is) are) own);
  listed = λ cache own are.
      subst (λ (rows : List Kept). AreListedIn cache rows) (sym (ap values_of c.in_ok-insert.ensures.entries))
      (every-put (λ (kept : Kept). IsListedIn cache kept) _ c.self.inside.rows.entries c.args.slot c.args.kept
      (subst (λ (rows : List Kept). AreListedIn cache rows) (sym c.self.view_is) are) own);
}
