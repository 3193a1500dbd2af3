-- A prefix without a number comes: what a plan asks then.
use Rattle.std.proofs.Common.{◌≡◌, ℕ, ◌==◌, ◌||◌, true, false, not, List, [], ◌∷◌, None, refl, sym, ap, ◌∙◌, inl, inr}
use Rattle.std.proofs.lemmas.Bool.{both_ways, eq-eqb, ne_eqb}
use Rattle.pol_addr.specs.declared.network.Prefix.{Prefix}
use Rattle.pol_set_changes.specs.Ids.{has}
use Rattle.pol_model_laws.specs.Holding.{has_row}
use Rattle.pol_model_laws.proofs.HoldingLaws.{held_adds, held_has}
use Rattle.pol_model_laws.proofs.Parts.{free_row, part-prefixes_held}
use Rattle.pol_ident.specs.Look.{number_for_prefix}
use Rattle.pol_model.specs.declared.limits.TheConstants.{LOCAL_FIRST}
use Rattle.pol_model.specs.declared.row.IdentityRow.{IdentityRow}
use Rattle.pol_model.specs.Identities.{free_number, or_free}
use Rattle.pol_model.specs.Prefixes.{number_of_prefix, prefix_held}
use Rattle.pol_model.proofs.AscendingStates.{RowsAscend, prefixes_held_ascend}
use Rattle.pol_selcache.specs.Cache.{MayCome}
use Rattle.pol_selcache.proofs.Staying.{exact_as_come}

module _ (prefix : Prefix) (rows : List IdentityRow) (number : ℕ) (its : number ≡ number_for_prefix prefix rows) where
  pub prefix_is_held : has_row number (prefix_held prefix rows) ≡ true
  prefix_is_held = ap (λ m. has_row m (prefix_held prefix rows)) its ∙ held_has _ _ rows

  module _ (ascend : RowsAscend rows) (none : number_of_prefix prefix rows ≡ None) where
    new : has_row number rows ≡ false
    new = ap (λ n. has_row n rows) its ∙ ap (λ o. has_row (or_free o (free_number LOCAL_FIRST rows)) rows) none ∙ free_row LOCAL_FIRST rows ascend

    comes : (n : ℕ) → has_row n (prefix_held prefix rows) ≡ true → has n (number ∷ []) ≡ not (has_row n rows)
    comes n there =
        elim (held_adds (number_of_prefix prefix rows) _ rows n there) [
          | inl before ↦
              let other : (number == n) ≡ false = ne_eqb number n (λ same. both_ways (has_row n rows) (ap (λ m. has_row m rows) (sym same) ∙ new) before) in
              ap (λ b. b || false) other ∙ sym (ap not before)
          | inr is ↦
              let same : number ≡ n = its ∙ sym is in
              ap (λ b. b || false) (eq-eqb number n same) ∙ sym (ap not (ap (λ m. has_row m rows) (sym same) ∙ new))
        ]

    pub prefix_may_come : MayCome number rows (prefix_held prefix rows)
    prefix_may_come = λ revision cache newer exact. record {
      newer = newer;
      come_held = (prefix_is_held, tt);
      gone_held = tt;
      apart = (refl, tt);
      exact = exact_as_come rows (prefix_held prefix rows) (number ∷ []) cache.live (prefixes_held_ascend (prefix ∷ []) rows ascend) (part-prefixes_held (prefix ∷ []) rows ascend) comes exact;
    }
